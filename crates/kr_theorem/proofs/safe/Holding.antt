-- The lock states of all transactions beside the locks of a run: what a granted request, an end and an undone change do to them.
use Rattle.std.proofs.Common.{ℕ, ◌≤◌, ◌≡◌, ◌≢◌, ◌⊎◌, inl, inr, ⊎_elim, refl, sym, ap, ◌∙◌, Bool, true, false, subst, true≢false}
use Rattle.std.specs.Prelude.{not, cond, ◌||◌, Option, Some, None, unwrap_or}
use Rattle.std.specs.FinMap.{find}
use Rattle.std.proofs.lemmas.Bool.{cases_eq, cases_Bool}
use Rattle.kr_model.specs.declared.Name.{Name}
use Rattle.kr_model.specs.declared.Row.{Row}
use Rattle.kr_model.specs.declared.Row.TheVariants.{FetchHit, FetchMiss, ScanKey, ScanStop, Insert, Delete, Update}
use Rattle.kr_model.specs.declared.Side.{Side}
use Rattle.kr_model.specs.declared.Side.TheVariants.{Current, Next}
use Rattle.kr_model.specs.declared.Span.{Span}
use Rattle.kr_model.specs.Protocol.{Protocol, IsLawful}
use Rattle.kr_model.specs.Covers.{mode_after, conflicts_with}
use Rattle.kr_model.specs.Locks.{Locks, own, release, holder_cmp}
use Rattle.kr_model.proofs.Guarantees.{Conflicts, Serves}
use Rattle.kr_model.proofs.LockLaws.{name_or_not, find-release, own-release_other}
use Rattle.kr_model.proofs.Actives.{tied}
use Rattle.kr_theorem.proofs.step.Covers.{Modes, Granted}
use Rattle.kr_theorem.proofs.step.Guarded.{Taken}
use Rattle.kr_model.specs.declared.KeyUse.TheVariants.{Free as KeyFree}
use Rattle.kr_model.specs.declared.GapUse.TheVariants.{Free as GapFree}
use Rattle.kr_model.specs.declared.LockState.{LockState}
use Rattle.kr_model.specs.Safe.{free, IsIdle, by_key, by_gap, keeps_out, given, asked, after, MayAsk, MayBeside, is_blocked, Beside, start, turn, move, IsSafe}
use Rattle.kr_theorem.proofs.safe.Shape.{code, shape, more, in_count}
use Rattle.kr_theorem.proofs.safe.KeptOut.{MayKeepOut, kept_out}
use Rattle.kr_theorem.proofs.safe.Stays.{stays}
use Rattle.kr_theorem.proofs.safe.Absent.{free_open, none_on_absent}

-- The lock state of each transaction on each name.
abbrev pub Holds : Type 0
Holds = ℕ → Name → LockState

-- Their modes in the fixed protocol.
abbrev pub modes : Holds → Modes
modes hold t n = code (hold t n).key (hold t n).gap

-- One lock state replaced --

pub here_or_not : (t u : ℕ) (n x : Name) → ((u ≡ t) × (x ≡ n)) ⊎ ((u ≡ t) × (x ≡ n) → ⊥)
here_or_not t u n x = ⊎_elim (λ e. ⊎_elim (λ f. inl (e, f)) (λ g. inr (λ h. g h.1)) (name_or_not x n)) (λ d. inr (λ h. d h.0)) (cases_eq u t)

-- The first lock state where P holds, else the second.
abbrev pub pick : {P Q : Type 0} → P ⊎ Q → LockState → LockState → LockState
pick (inl a) y z = y
pick (inr b) y z = z

pub pick_first : {P : Type 0} (d : P ⊎ (P → ⊥)) (y z : LockState) → P → pick d y z ≡ y
pick_first (inl a) y z h = refl
pick_first (inr b) y z h = absurd (b h)

pub pick_second : {P : Type 0} (d : P ⊎ (P → ⊥)) (y z : LockState) → (P → ⊥) → pick d y z ≡ z
pick_second (inl a) y z h = absurd (h a)
pick_second (inr b) y z h = refl

-- The lock states, with that of t on n replaced.
abbrev pub with_hold : Holds → ℕ → Name → LockState → Holds
with_hold hold t n z u x = pick (here_or_not t u n x) z (hold u x)

pub with_same : (hold : Holds) (t : ℕ) (n : Name) (z : LockState) → with_hold hold t n z t n ≡ z
with_same hold t n z = pick_first (here_or_not t t n n) z (hold t n) (refl, refl)

pub with_other : (hold : Holds) (t : ℕ) (n : Name) (z : LockState) (u : ℕ) (x : Name) → ((u ≡ t) × (x ≡ n) → ⊥) → with_hold hold t n z u x ≡ hold u x
with_other hold t n z u x d = pick_second (here_or_not t u n x) z (hold u x) d

-- A property of the new lock state of t on n and of each other lock state is one of all.
pub by_hold : (P : ℕ → Name → LockState → Type 0) (hold : Holds) (t : ℕ) (n : Name) (z : LockState) → P t n z → ((u : ℕ) (x : Name) → ((u ≡ t) × (x ≡ n) → ⊥) → P u x (hold u x)) → (u : ℕ) (x : Name) → P u x (with_hold hold t n z u x)
by_hold P hold t n z mine others u x = ⊎_elim
    (λ e. subst (λ w. P w x (with_hold hold t n z w x)) (sym e.0) (subst (λ w. P t w (with_hold hold t n z t w)) (sym e.1) (subst (λ w. P t n w) (sym (with_same hold t n z)) mine)))
    (λ d. subst (λ w. P u x w) (sym (with_other hold t n z u x d)) (others u x d))
    (here_or_not t u n x)

-- The lock states, with those of t released.
abbrev pub without_holds : Holds → ℕ → Holds
without_holds hold t u x = pick (cases_eq u t) free (hold u x)

pub without_same : (hold : Holds) (t : ℕ) (x : Name) → without_holds hold t t x ≡ free
without_same hold t x = pick_first (cases_eq t t) free (hold t x) refl

pub without_other : (hold : Holds) (t u : ℕ) (x : Name) → u ≢ t → without_holds hold t u x ≡ hold u x
without_other hold t u x d = pick_second (cases_eq u t) free (hold u x) d

-- Paired with locks --

-- The lock state of one who rolls back, which protects nothing.
abbrev pub IsVoid : Bool → LockState → Type 0
IsVoid rolls x = (rolls ≡ true) × IsIdle x

-- The lock states have the modes of the locks. Any two on one name are in the relation `Beside`, and so is each with no lock; but those of transactions that roll back may be void instead.
pub record Paired (p : Protocol) (rolls : ℕ → Bool) (l : Locks) (hold : Holds) : Type 0 where
  pub mode : (t : ℕ) (n : Name) → (hold t n).mode ≡ own l t n
  pub alone : (t : ℕ) (n : Name) → (Beside p (hold t n) free) ⊎ IsVoid (rolls t) (hold t n)
  pub beside : (t u : ℕ) (n : Name) → rolls t ≡ false → u ≢ t → (Beside p (hold t n) (hold u n)) ⊎ IsVoid (rolls u) (hold u n)

rolls_not : {A : Type 0} (b : Bool) (x : LockState) → b ≡ false → IsVoid b x → A
rolls_not b x live void = absurd (true≢false (sym void.0 ∙ live))

pub alone_live : (p : Protocol) (rolls : ℕ → Bool) (l : Locks) (hold : Holds) → Paired p rolls l hold → (t : ℕ) (n : Name) → rolls t ≡ false → Beside p (hold t n) free
alone_live p rolls l hold k t n live = ⊎_elim (λ b. b) (λ void. rolls_not (rolls t) (hold t n) live void) (k.alone t n)

-- A request without a conflict isn't blocked, and one that is blocked has a conflict.
pub open_of : (p : Protocol) (h o : ℕ) (a : Option (ℕ × Span)) → (Conflicts p h o a → ⊥) → conflicts_with p h o a ≡ false
open_of p h o None none = refl
open_of p h o (Some (q, span)) none = by (p.ok (p.convert o q) h) none
  where
    by : (b : Bool) → (b ≡ false → ⊥) → not b ≡ false
    by true f = refl
    by false f = absurd (f refl)

conflict_of : (p : Protocol) (h o : ℕ) (a : Option (ℕ × Span)) → conflicts_with p h o a ≡ true → Conflicts p h o a
conflict_of p h o None e = absurd (cc)
conflict_of p h o (Some (q, span)) e = by (p.ok (p.convert o q) h) e
  where
    by : (b : Bool) → not b ≡ true → b ≡ false
    by true f = absurd (cc)
    by false f = refl

free_beside : (p : Protocol) → IsLawful p → (r : Row) (s : Side) → MayBeside p r s free
free_beside p laws FetchHit s = tt
free_beside p laws FetchMiss s = tt
free_beside p laws ScanKey s = tt
free_beside p laws ScanStop s = tt
free_beside p laws Insert Current = (refl, record { key = refl; gap = refl }, none_on_absent p laws)
free_beside p laws Insert Next = tt
free_beside p laws Delete s = tt
free_beside p laws Update s = tt

-- A lock with nothing to protect has to keep nobody out.
pub idle_lets : (r : Row) (s : Side) → (by_key KeyFree r s || by_gap GapFree r s) ≡ false
idle_lets FetchHit s = refl
idle_lets FetchMiss s = refl
idle_lets ScanKey s = refl
idle_lets ScanStop s = refl
idle_lets Insert s = refl
idle_lets Delete s = refl
idle_lets Update s = refl

pub idle_out : (x : LockState) (r : Row) (s : Side) → IsIdle x → keeps_out x r s ≡ false
idle_out x r s i = ap (λ k. by_key k r s || by_gap x.gap r s) i.key ∙ ap (λ g. by_key KeyFree r s || by_gap g r s) i.gap ∙ idle_lets r s

module _ (p : Protocol) (laws : IsLawful p) (rolls : ℕ → Bool) (l : Locks) (hold : Holds) (k : Paired p rolls l hold) (t : ℕ) (live : rolls t ≡ false) where
  -- Under a safe protocol a granted request of t is none that another's lock has to keep out.
  pub granted_out : IsSafe p → (r : Row) (s : Side) (name : Name) (n : LockState) → Beside p n free → MayAsk p r s (hold t name) n → Granted p (own l) t r s name (given r s (hold t name) n)
      → (u : ℕ) → u ≢ t → keeps_out (hold u name) r s ≡ true → ⊥
  granted_out safe r s name n reached may granted u ne out =
      let x = hold t name in
      let y = hold u name in
      ⊎_elim
      (λ b. granted u ne (subst (λ h. Conflicts p h (own l t name) (asked p r s x n)) (k.mode u name) (subst (λ o. Conflicts p y.mode o (asked p r s x n)) (k.mode t name)
      (conflict_of p y.mode x.mode (asked p r s x n) (safe r s x y n b reached may out)))))
      (λ void. true≢false (sym out ∙ idle_out y r s void.1))
      (k.beside t u name live ne)

  pub granted_shape : IsSafe p → (r : Row) (s : Side) (name : Name) (n : LockState) → Beside p n free → MayAsk p r s (hold t name) n → Granted p (own l) t r s name (given r s (hold t name) n) → MayKeepOut r s
      → (on : ℕ) → Granted shape (modes hold) t r s name on
  granted_shape safe r s name n reached may granted keep on u ne conflict =
      granted_out safe r s name n reached may granted u ne (kept_out r s on (modes hold t name) (hold u name).key (hold u name).gap keep conflict)

  -- A granted request keeps the lock states beside the locks.
  pub move_at : (r : Row) (s : Side) (name : Name) (n : LockState) → Beside p n free → MayAsk p r s (hold t name) n
      → ((u : ℕ) → u ≢ t → MayBeside p r s (hold u name) ⊎ IsVoid (rolls u) (hold u name))
      → Granted p (own l) t r s name (given r s (hold t name) n)
      → own l t name ≤ p.count → given r s (hold t name) n ≤ p.count
      → (l' : Locks) → own l' t name ≡ mode_after p (own l t name) (asked p r s (hold t name) n) → ((u : ℕ) (x : Name) → ((u ≡ t) × (x ≡ name) → ⊥) → own l' u x ≡ own l u x)
      → Paired p rolls l' (with_hold hold t name (after p r s (hold t name) n))
  move_at r s name n reached may others granted io in_given l' here elsewhere =
      let x = hold t name in
      let z : LockState = after p r s x n in
      let free_ok : is_blocked p r s x n free ≡ false = free_open p laws r s x n (subst (λ o. o ≤ p.count) (sym (k.mode t name)) io) in_given in
      let ok : (u : ℕ) → u ≢ t → is_blocked p r s x n (hold u name) ≡ false = λ u ne.
      open_of p (hold u name).mode x.mode (asked p r s x n) (λ c. granted u ne (subst (λ h. Conflicts p h (own l t name) (asked p r s x n)) (k.mode u name) (subst (λ o. Conflicts p (hold u name).mode o (asked p r s x n)) (k.mode t name) c))) in
      let new : (u : ℕ) → u ≢ t → (Beside p z (hold u name)) ⊎ IsVoid (rolls u) (hold u name) = λ u ne.
      ⊎_elim (λ b. ⊎_elim (λ mb. inl (move r s x (hold u name) n b reached may mb (ok u ne))) (λ void. inr void) (others u ne)) (λ void. inr void) (k.beside t u name live ne) in
      record {
        mode = by_hold (λ u w h. h.mode ≡ own l' u w) hold t name z (ap (λ o. mode_after p o (asked p r s x n)) (k.mode t name) ∙ sym here) (λ u w d. k.mode u w ∙ sym (elsewhere u w d));
        alone = by_hold (λ u w h. (Beside p h free) ⊎ IsVoid (rolls u) h) hold t name z
            (inl (move r s x free n (alone_live p rolls l hold k t name live) reached may (free_beside p laws r s) free_ok)) (λ u w d. k.alone u w);
        beside = λ v u w live_v ne. (by_hold (λ v w h. (u : ℕ) → rolls v ≡ false → u ≢ v → (Beside p h (with_hold hold t name z u w)) ⊎ IsVoid (rolls u) (with_hold hold t name z u w)) hold t name z
            (λ u live_t ne. subst (λ y. (Beside p z y) ⊎ IsVoid (rolls u) y) (sym (with_other hold t name z u name (λ e. ne e.0))) (new u ne))
            (λ v w d u live_v ne. ⊎_elim
            (λ e. let vt : v ≢ t = λ f. d (f, e.1) in
            inl (subst (λ q. Beside p (hold v w) (with_hold hold t name z q w)) (sym e.0)
            (subst (λ q. Beside p (hold v q) (with_hold hold t name z t q)) (sym e.1)
            (subst (λ y. Beside p (hold v name) y) (sym (with_same hold t name z))
            (turn z (hold v name) (⊎_elim (λ b. b) (λ void. rolls_not (rolls v) (hold v name) live_v void) (new v vt)))))))
            (λ far. subst (λ y. (Beside p (hold v w) y) ⊎ IsVoid (rolls u) y) (sym (with_other hold t name z u w far)) (k.beside v u w live_v ne))
            (here_or_not t u name w))
            v w) u live_v ne;
      }

-- After it the fixed protocol's mode serves more.
pub taken_at : (p : Protocol) (hold : Holds) (t : ℕ) (r : Row) (s : Side) (name : Name) (n : LockState) → Taken shape (modes hold) (modes (with_hold hold t name (after p r s (hold t name) n))) t
taken_at p hold t r s name n =
    let x = hold t name in
    let z : LockState = after p r s x n in
    record {
      range = λ u w. in_count (with_hold hold t name z u w).key (with_hold hold t name z u w).gap;
      others = λ u ne w. ap (λ h. code h.key h.gap) (with_other hold t name z u w (λ e. ne e.0));
      keeps = λ w c sv. (by_hold (λ v w h. v ≡ t → Serves shape c (modes hold v w) → Serves shape c (code h.key h.gap)) hold t name z
          (λ e sv. more (code x.key x.gap) (code z.key z.gap) (stays r s x.key x.gap n.gap) c sv) (λ v w d e sv. sv) t w) refl sv;
    }

-- So does an end.
pub end_at : (p : Protocol) (rolls rolls' : ℕ → Bool) (l : Locks) (hold : Holds) (t : ℕ) → Paired p rolls l hold → rolls' t ≡ false → ((u : ℕ) → u ≢ t → rolls' u ≡ rolls u) → Paired p rolls' (release l t) (without_holds hold t)
end_at p rolls rolls' l hold t k live same =
    let gone : (x : Name) → own (release l t) t x ≡ 0 = λ x.
    ap (λ o. unwrap_or o 0) (find-release l t (x, t)) ∙ ap (λ b. unwrap_or (cond (not b) (find holder_cmp (x, t) l) None) 0) (tied t) in
    record {
      mode = λ u x. ⊎_elim
          (λ e. subst (λ w. (without_holds hold t w x).mode ≡ own (release l t) w x) (sym e) (ap (λ h. h.mode) (without_same hold t x) ∙ sym (gone x)))
          (λ ne. ap (λ h. h.mode) (without_other hold t u x ne) ∙ k.mode u x ∙ sym (own-release_other l t u x ne))
          (cases_eq u t);
      alone = λ u x. ⊎_elim
          (λ e. inl (subst (λ w. Beside p (without_holds hold t w x) free) (sym e) (subst (λ h. Beside p h free) (sym (without_same hold t x)) start)))
          (λ ne. subst (λ h. (Beside p h free) ⊎ IsVoid (rolls' u) h) (sym (without_other hold t u x ne)) (subst (λ b. (Beside p (hold u x) free) ⊎ IsVoid b (hold u x)) (sym (same u ne)) (k.alone u x)))
          (cases_eq u t);
      beside = λ v u x live_v ne. ⊎_elim
          (λ e. let ut : u ≢ t = λ f. ne (f ∙ sym e) in
          subst (λ h. (Beside p h (without_holds hold t u x)) ⊎ IsVoid (rolls' u) (without_holds hold t u x)) (sym (ap (λ w. without_holds hold t w x) e ∙ without_same hold t x))
          (subst (λ h. (Beside p free h) ⊎ IsVoid (rolls' u) h) (sym (without_other hold t u x ut))
          (subst (λ b. (Beside p free (hold u x)) ⊎ IsVoid b (hold u x)) (sym (same u ut))
          (⊎_elim (λ b. inl (turn (hold u x) free b)) (λ void. inr void) (k.alone u x)))))
          (λ vt. let was : rolls v ≡ false = sym (same v vt) ∙ live_v in
          subst (λ h. (Beside p h (without_holds hold t u x)) ⊎ IsVoid (rolls' u) (without_holds hold t u x)) (sym (without_other hold t v x vt))
          (⊎_elim
          (λ e. inl (subst (λ h. Beside p (hold v x) h) (sym (ap (λ w. without_holds hold t w x) e ∙ without_same hold t x)) (alone_live p rolls l hold k v x was)))
          (λ ut. subst (λ h. (Beside p (hold v x) h) ⊎ IsVoid (rolls' u) h) (sym (without_other hold t u x ut)) (subst (λ b. (Beside p (hold v x) (hold u x)) ⊎ IsVoid b (hold u x)) (sym (same u ut)) (k.beside v u x was ne)))
          (cases_eq u t)))
          (cases_eq v t);
    }

-- So does one who begins to roll back, or goes on.
pub roll_at : (p : Protocol) (rolls rolls' : ℕ → Bool) (l : Locks) (hold : Holds) (t : ℕ) → Paired p rolls l hold → rolls' t ≡ true → ((u : ℕ) → u ≢ t → rolls' u ≡ rolls u) → Paired p rolls' l hold
roll_at p rolls rolls' l hold t k rolling same =
    let void : (u : ℕ) (x : LockState) → IsVoid (rolls u) x → IsVoid (rolls' u) x = λ u x v. (⊎_elim (λ e. ap rolls' e ∙ rolling) (λ ne. same u ne ∙ v.0) (cases_eq u t), v.1) in
    record {
      mode = k.mode;
      alone = λ u x. ⊎_elim (λ b. inl b) (λ v. inr (void u (hold u x) v)) (k.alone u x);
      beside = λ v u x live_v ne.
          let vt : v ≢ t = λ e. true≢false (sym rolling ∙ sym (ap rolls' e) ∙ live_v) in
          ⊎_elim (λ b. inl b) (λ w. inr (void u (hold u x) w)) (k.beside v u x (sym (same v vt) ∙ live_v) ne);
    }

-- So do marks that are the same.
pub same_rolls : (p : Protocol) (rolls rolls' : ℕ → Bool) (l : Locks) (hold : Holds) → Paired p rolls l hold → ((u : ℕ) → rolls' u ≡ rolls u) → Paired p rolls' l hold
same_rolls p rolls rolls' l hold k same = record {
  mode = k.mode;
  alone = λ u x. subst (λ b. (Beside p (hold u x) free) ⊎ IsVoid b (hold u x)) (sym (same u)) (k.alone u x);
  beside = λ v u x live_v ne. subst (λ b. (Beside p (hold v x) (hold u x)) ⊎ IsVoid b (hold u x)) (sym (same u)) (k.beside v u x (sym (same v) ∙ live_v) ne);
}

-- Voided --

-- The same mode, with nothing to protect.
abbrev pub idle : LockState → LockState
idle x = record { mode = x.mode; key = KeyFree; gap = GapFree; deleted = x.deleted }

pub rolls_here : (rolls : ℕ → Bool) (n : Name) (u : ℕ) (x : Name) → ((rolls u ≡ true) × (x ≡ n)) ⊎ ((rolls u ≡ true) × (x ≡ n) → ⊥)
rolls_here rolls n u x = ⊎_elim (λ e. ⊎_elim (λ f. inl (e, f)) (λ g. inr (λ h. g h.1)) (name_or_not x n)) (λ e. inr (λ h. true≢false (sym h.0 ∙ e))) (cases_Bool (rolls u))

-- The lock states, with those voided that transactions which roll back have on n.
abbrev pub voided : Holds → (ℕ → Bool) → Name → Holds
voided hold rolls n u x = pick (rolls_here rolls n u x) (idle (hold u x)) (hold u x)

pub voided_apart : (hold : Holds) (rolls : ℕ → Bool) (n : Name) (u : ℕ) (x : Name) → ((rolls u ≡ true) × (x ≡ n) → ⊥) → voided hold rolls n u x ≡ hold u x
voided_apart hold rolls n u x d = pick_second (rolls_here rolls n u x) (idle (hold u x)) (hold u x) d

pub voided_live : (hold : Holds) (rolls : ℕ → Bool) (n : Name) (u : ℕ) (x : Name) → rolls u ≡ false → voided hold rolls n u x ≡ hold u x
voided_live hold rolls n u x live = voided_apart hold rolls n u x (λ h. true≢false (sym h.0 ∙ live))

pub voided_at : (hold : Holds) (rolls : ℕ → Bool) (n : Name) (u : ℕ) → rolls u ≡ true → IsVoid (rolls u) (voided hold rolls n u n)
voided_at hold rolls n u rolling = (rolling, subst (λ h. IsIdle h) (sym (pick_first (rolls_here rolls n u n) (idle (hold u n)) (hold u n) (rolling, refl))) (record { key = refl; gap = refl }))

-- With these voided the lock states are still beside the locks.
pub void_at : (p : Protocol) (rolls : ℕ → Bool) (l : Locks) (hold : Holds) (n : Name) → Paired p rolls l hold → Paired p rolls l (voided hold rolls n)
void_at p rolls l hold n k =
    let either : (u : ℕ) (x : Name) (P : LockState → Type 0) → ((rolls u ≡ true) → P (idle (hold u x))) → P (hold u x) → P (voided hold rolls n u x) = λ u x P a b.
    ⊎_elim (λ e. subst P (sym (pick_first (rolls_here rolls n u x) (idle (hold u x)) (hold u x) e)) (a e.0)) (λ d. subst P (sym (pick_second (rolls_here rolls n u x) (idle (hold u x)) (hold u x) d)) b) (rolls_here rolls n u x) in
    record {
      mode = λ u x. either u x (λ h. h.mode ≡ own l u x) (λ e. k.mode u x) (k.mode u x);
      alone = λ u x. either u x (λ h. (Beside p h free) ⊎ IsVoid (rolls u) h) (λ e. inr (e, record { key = refl; gap = refl })) (k.alone u x);
      beside = λ v u x live_v ne. subst (λ y. (Beside p y (voided hold rolls n u x)) ⊎ IsVoid (rolls u) (voided hold rolls n u x)) (sym (voided_live hold rolls n v x live_v))
          (either u x (λ h. (Beside p (hold v x) h) ⊎ IsVoid (rolls u) h) (λ e. inr (e, record { key = refl; gap = refl })) (k.beside v u x live_v ne));
    }
