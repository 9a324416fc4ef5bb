-- A granted request keeps how the lock states fit.
use Rattle.std.specs.Prelude.{◌≡◌, ℕ, ◌≤◌, true, false}
use Rattle.std.proofs.Common.{sym, ◌∙◌, ap, subst, inl, inr, ⊎_elim, ◌≢◌, true≢false}
use Rattle.std.proofs.lemmas.Bool.{cases_eq}
use Rattle.kr_model.specs.declared.Name.{Name}
use Rattle.kr_model.specs.declared.Name.TheVariants.{Key}
use Rattle.kr_model.specs.Covers.{conflicts_with, mode_after}
use Rattle.kr_model.specs.Locks.{Locks, own, kept}
use Rattle.kr_model.specs.Map.{Map}
use Rattle.kr_model.proofs.LockLaws.{name_or_not}
use Rattle.kr_theorem.proofs.gaps.Gaps.{has}
use Rattle.kr_theorem.proofs.safe.Kept.{here, elsewhere}
use Rattle.kr_theorem.proofs.step.Parts.{Part, Parts, with_part, by_part}
use Rattle.kr_ghost.specs.Protocol.{GhostProtocol, AsksMode, IsLawfulGhost}
use Rattle.kr_ghost.specs.Step.{on}
use Rattle.kr_ghost.specs.Safe.{Hold, idle, Ask, asked, MayAsk, keeps_out, is_blocked, present_after, key_after, after, Beside, ask, third_asks, IsSafeGhost}
use Rattle.kr_ghost.proofs.Grants.{Free, open_none}
use Rattle.kr_ghost.proofs.Guarded.{Taken}
use Rattle.kr_ghost.proofs.Holding.{Holds, Protects, after_protects, with_hold, hold_here, hold_apart, olds_at, Fits}
use Rattle.kr_ghost.proofs.Sim.{status, Sim, Peer, alone_after, beside_after}

-- No other's lock blocks a granted request.
pub not_blocked : (p : GhostProtocol) (m e : Map) (l : Locks) (part : Parts) (hold : Holds) → Sim p m e l part hold → (t : ℕ) (x : Name) (a : Ask) → Free p.table (own l) t x (asked p a (own l t x))
    → (u : ℕ) → u ≢ t → is_blocked p (hold t x) (hold u x) a ≡ false
not_blocked p m e l part hold z t x a granted u ne =
    ap (λ w. conflicts_with p.table w (hold t x).mode (asked p a (hold t x).mode)) (z.mode u x)
    ∙ ap (λ o. conflicts_with p.table (own l u x) o (asked p a o)) (z.mode t x) ∙ granted u ne

-- So none of a safe protocol has to keep it out.
pub clash : (p : GhostProtocol) → IsSafeGhost p → (m e : Map) (l : Locks) (part : Parts) (hold : Holds) → Sim p m e l part hold → (t : ℕ) (x : Name) (a : Ask)
    → MayAsk p (status m x) (hold t x) a → Free p.table (own l) t x (asked p a (own l t x))
    → (u : ℕ) → u ≢ t → keeps_out (status m x) (hold u x) a ≡ true → ⊥
clash p safe m e l part hold z t x a may granted u ne keeps =
    true≢false (sym (safe a (status m x) (hold t x) (hold u x) (z.beside t u x (λ is. ne (sym is))) may keeps) ∙ not_blocked p m e l part hold z t x a granted u ne)

module _ (p : GhostProtocol) (laws : IsLawfulGhost p) (m m' e e' : Map) (l : Locks) (range : (u : ℕ) (n : Name) → own l u n ≤ p.table.count) (part : Parts)
    (hold : Holds) (z : Sim p m e l part hold) (t : ℕ) (q : Part) (x : Name) (a : Ask)
    (may : MayAsk p (status m x) (hold t x) a) (modes : AsksMode p.table (asked p a (own l t x))) (granted : Free p.table (own l) t x (asked p a (own l t x)))
    (now : status m' x ≡ present_after (status m x) a) (still : (n : Name) → n ≢ x → status m' n ≡ status m n) (names : (y : ℕ) → has e' y ≡ false → has e y ≡ false)
    (out : (y : ℕ) → has e y ≡ false → Key y ≢ x)
    (rolling : q.rolling ≡ (part t).rolling) (fits_x : Fits (olds_at q.changes x) (key_after (status m x) (hold t x).key a))
    (fits_other : (n : Name) → n ≢ x → olds_at q.changes n ≡ olds_at (part t).changes n) where
  -- The lock state of t on x after the request, and all lock states then.
  abbrev pub asked_state : Hold
  asked_state = after p (status m x) (hold t x) a

  abbrev pub asked_holds : Holds
  asked_holds = with_hold hold t x asked_state

  abbrev asked_locks : Locks
  asked_locks = kept p.table l t (on x (asked p a (own l t x)))

  -- It is that of t on x, and every other stays.
  pub asked_here : asked_holds t x ≡ asked_state
  asked_here = hold_here hold t x asked_state

  pub asked_apart : (n : Name) → n ≢ x → asked_holds t n ≡ hold t n
  asked_apart n ne = hold_apart hold t x asked_state t n (λ both. ne both.1)

  pub asked_others : (u : ℕ) → u ≢ t → (n : Name) → asked_holds u n ≡ hold u n
  asked_others u ne n = hold_apart hold t x asked_state u n (λ both. ne both.0)

  -- What t protected it protects still.
  pub asked_taken : Taken hold asked_holds t
  asked_taken = record {
    others = asked_others;
    keeps = λ n c h. ⊎_elim
        (λ is. subst (λ w. Protects c (asked_holds t w)) (sym is) (subst (λ y. Protects c y) (sym asked_here) (after_protects p (status m x) (hold t x) a c (subst (λ w. Protects c (hold t w)) is h))))
        (λ ne. subst (λ y. Protects c y) (sym (asked_apart n ne)) h)
        (name_or_not n x);
  }

  same_mode : (hold t x).mode ≡ own l t x
  same_mode = z.mode t x

  by_mode : (h : ℕ) → conflicts_with p.table h (own l t x) (asked p a (own l t x)) ≡ false → conflicts_with p.table h (hold t x).mode (asked p a (hold t x).mode) ≡ false
  by_mode h is = ap (λ o. conflicts_with p.table h o (asked p a o)) same_mode ∙ is

  -- Nobody's lock there blocks it.
  lets : (y : Hold) → Peer p m m' e l part hold asked_holds z t asked_others x y → is_blocked p (hold t x) y a ≡ false
  lets y (inl is) =
      ap (λ w. conflicts_with p.table w (hold t x).mode (asked p a (hold t x).mode)) (ap (λ (h : Hold). h.mode) is) ∙ by_mode 0
      (open_none p.table laws.table (own l t x) (range t x) (asked p a (own l t x)) modes)
  lets y (inr (u, ne, is)) = ap (λ w. conflicts_with p.table w (hold t x).mode (asked p a (hold t x).mode)) (ap (λ (h : Hold). h.mode) is ∙ z.mode u x) ∙ by_mode (own l u x) (granted u ne)

  pair : (n : Name) (y : Hold) → Peer p m m' e l part hold asked_holds z t asked_others n y → Beside p (status m n) (hold t n) y → Beside p (status m' n) (asked_holds t n) y
  pair n y peer b = ⊎_elim
      (λ is. subst (λ w. Beside p (status m' w) (asked_holds t w) y) (sym is)
      (subst (λ h. Beside p (status m' x) h y) (sym asked_here) (subst (λ s. Beside p s asked_state y) (sym now)
      (ask a (status m x) (hold t x) y (subst (λ w. Beside p (status m w) (hold t w) y) is b) may (lets y (subst (λ w. Peer p m m' e l part hold asked_holds z t asked_others w y) is peer))))))
      (λ ne. subst (λ h. Beside p (status m' n) h y) (sym (asked_apart n ne)) (subst (λ s. Beside p s (hold t n) y) (sym (still n ne)) b))
      (name_or_not n x)

  third : (n : Name) (v w : Hold) → Peer p m m' e l part hold asked_holds z t asked_others n v → Peer p m m' e l part hold asked_holds z t asked_others n w
      → Beside p (status m n) v w → Beside p (status m n) (hold t n) v → Beside p (status m n) (hold t n) w → Beside p (status m' n) v w
  third n v w pv pw b bv bw = ⊎_elim
      (λ is. subst (λ y. Beside p (status m' y) v w) (sym is) (subst (λ s. Beside p s v w) (sym now)
      (third_asks a (status m x) v w (hold t x) (subst (λ y. Beside p (status m y) v w) is b) (subst (λ y. Beside p (status m y) (hold t y) v) is bv)
      (subst (λ y. Beside p (status m y) (hold t y) w) is bw) may
      (lets v (subst (λ y. Peer p m m' e l part hold asked_holds z t asked_others y v) is pv)) (lets w (subst (λ y. Peer p m m' e l part hold asked_holds z t asked_others y w) is pw)))))
      (λ ne. subst (λ s. Beside p s v w) (sym (still n ne)) b)
      (name_or_not n x)

  mode_there : (n : Name) → (asked_holds t n).mode ≡ own asked_locks t n
  mode_there n = ⊎_elim
      (λ is. subst (λ w. (asked_holds t w).mode ≡ own asked_locks t w) (sym is)
      (ap (λ (h : Hold). h.mode) asked_here ∙ ap (λ o. mode_after p.table o (asked p a o)) same_mode ∙ sym (here p.table l t x (asked p a (own l t x)))))
      (λ ne. ap (λ (h : Hold). h.mode) (asked_apart n ne) ∙ z.mode t n ∙ sym (elsewhere p.table l t x (asked p a (own l t x)) t n (λ both. ne both.1)))
      (name_or_not n x)

  -- So the lock states fit the locks after the request.
  pub asked_sim : Sim p m' e' asked_locks (with_part part t q) asked_holds
  asked_sim = record {
    mode = λ u n. ⊎_elim
        (λ is. subst (λ w. (asked_holds w n).mode ≡ own asked_locks w n) (sym is) (mode_there n))
        (λ ne. ap (λ (h : Hold). h.mode) (asked_others u ne n) ∙ z.mode u n ∙ sym (elsewhere p.table l t x (asked p a (own l t x)) u n (λ both. ne both.0)))
        (cases_eq u t);
    rolls = λ u n. by_part (λ v w. (asked_holds v n).rolling ≡ w.rolling) part t q
        (⊎_elim
        (λ is. subst (λ w. (asked_holds t w).rolling ≡ q.rolling) (sym is) (ap (λ (h : Hold). h.rolling) asked_here ∙ z.rolls t x ∙ sym rolling))
        (λ ne. ap (λ (h : Hold). h.rolling) (asked_apart n ne) ∙ z.rolls t n ∙ sym rolling)
        (name_or_not n x))
        (λ v ne. ap (λ (h : Hold). h.rolling) (asked_others v ne n) ∙ z.rolls v n) u;
    none = λ u k absent. by_part (λ v w. asked_holds v (Key k) ≡ idle w.rolling) part t q
        (asked_apart (Key k) (out k (names k absent)) ∙ z.none t k (names k absent) ∙ ap idle (sym rolling))
        (λ v ne. asked_others v ne (Key k) ∙ z.none v k (names k absent)) u;
    fits = λ u n. by_part (λ v w. Fits (olds_at w.changes n) (asked_holds v n).key) part t q
        (⊎_elim
        (λ is. subst (λ w. Fits (olds_at q.changes w) (asked_holds t w).key) (sym is) (subst (λ h. Fits (olds_at q.changes x) h.key) (sym asked_here) fits_x))
        (λ ne. subst (λ h. Fits (olds_at q.changes n) h.key) (sym (asked_apart n ne)) (subst (λ os. Fits os (hold t n).key) (sym (fits_other n ne)) (z.fits t n)))
        (name_or_not n x))
        (λ v ne. subst (λ h. Fits (olds_at (part v).changes n) h.key) (sym (asked_others v ne n)) (z.fits v n)) u;
    alone = alone_after p m m' e l part hold asked_holds z t asked_others pair third;
    beside = beside_after p m m' e l part hold asked_holds z t asked_others pair third;
  }
