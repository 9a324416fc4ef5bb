-- A purge keeps how the lock states fit: they are inherited on the next name, or there are none.
use Rattle.std.specs.Prelude.{◌≡◌, ℕ, Bool, true, false, ◌||◌, ◌==◌, cond, if◌then◌else◌, [], ◌∷◌, refl, ◌⊎◌}
use Rattle.std.proofs.Common.{sym, ◌∙◌, ap, subst, inl, inr, ⊎_elim, ◌≢◌, true≢false, arith}
use Rattle.std.proofs.lemmas.Bool.{cases_eq}
use Rattle.kr_model.specs.declared.Name.{Name}
use Rattle.kr_model.specs.declared.Name.TheVariants.{Key}
use Rattle.kr_model.specs.declared.Row.TheVariants as row
use Rattle.kr_model.specs.declared.Side.TheVariants.{Next}
use Rattle.kr_model.specs.Covers.{conflicts_with}
use Rattle.kr_model.specs.Locks.{Locks, own}
use Rattle.kr_model.specs.Map.{Map, Changes}
use Rattle.kr_model.specs.State.{State, is_rolling}
use Rattle.kr_model.proofs.Keep.{same, same_holder, same_itself}
use Rattle.kr_model.proofs.LockLaws.{name_or_not}
use Rattle.kr_model.proofs.Requests.{AreLocks}
use Rattle.kr_theorem.proofs.gaps.Gaps.{has}
use Rattle.kr_theorem.proofs.gaps.Undo.{ChangedIn}
use Rattle.kr_theorem.proofs.step.Parts.{Parts, Changed}
use Rattle.kr_ghost.specs.Protocol.{GhostProtocol, IsLawfulGhost, Inherit, IsLawfulPurge}
use Rattle.kr_ghost.specs.Safe.{KeyUse, Free as KeyFree, Read, Inserted, Updated, Deleted, Several, Hold, idle, free, is_changed, is_read, Insert, Revive, inherits, Beside, turn, purge, IsSafeGhost}
use Rattle.kr_ghost.specs.declared.cases.Cover.{Cover}
use Rattle.kr_ghost.specs.declared.cases.Cover.TheVariants.{ReadKey, ReadGap, ChangedKey}
use Rattle.kr_ghost.proofs.Names.{key_is, same_of, or_first, or_second}
use Rattle.kr_ghost.proofs.Grants.{open_none}
use Rattle.kr_ghost.proofs.Holding.{Holds, Protects, olds, olds_at, Fits, fits_none}
use Rattle.kr_ghost.proofs.Passing.{inherited, on_ghost, on_next, on_others}
use Rattle.kr_ghost.proofs.Sim.{status, Sim}
use Rattle.kr_ghost.proofs.Added.{idle_both}

-- Without changes of a key left, nothing has been done to it.
no_olds : (cs : Changes) (k : ℕ) → (ChangedIn cs k → ⊥) → olds cs k ≡ []
no_olds [] k out = refl
no_olds (c ∷ cs) k out = ap (λ b. if b then c.1 ∷ olds cs k else olds cs k) (differ (c.0 == k) refl) ∙ no_olds cs k (λ older. out (inr older))
  where
    differ : (b : Bool) → (c.0 == k) ≡ b → (c.0 == k) ≡ false
    differ true is = absurd (out (inl (sym (same_of c.0 k is))))
    differ false is = is

-- So a key that nobody has changed is changed in no lock state.
pub unchanged_fits : (p : GhostProtocol) (m e : Map) (l : Locks) (part : Parts) (hold : Holds) → Sim p m e l part hold → (k : ℕ)
    → ((u : ℕ) → Changed (part u) k → ⊥) → (u : ℕ) → is_changed (hold u (Key k)).key ≡ false
unchanged_fits p m e l part hold z k nobody u = fits_none (hold u (Key k)).key (subst (λ os. Fits os (hold u (Key k)).key) (no_olds (part u).changes k (nobody u)) (z.fits u (Key k)))

-- Inherited --

-- The lock state x on the next name once it has inherited y.
abbrev pub inheriting : GhostProtocol → (ℕ → ℕ) → Hold → Hold → Hold
inheriting p heir x y = record { mode = p.table.convert x.mode (heir y.mode); key = x.key; gap = x.gap || (y.gap || is_read y.key); rolling = x.rolling }

-- What was protected on the next name stays so, and what was on the ghost is protected there.
pub inherits_keeps : (p : GhostProtocol) (heir : ℕ → ℕ) (x y : Hold) (c : Cover) → Protects c x → Protects c (inherits p heir x y)
inherits_keeps p heir x y c h = by y.rolling c h
  where
    by : (b : Bool) (c : Cover) → Protects c x → Protects c (if b then x else inheriting p heir x y)
    by true c h = h
    by false ReadKey h = h
    by false ReadGap h = or_first x.gap (y.gap || is_read y.key) h
    by false ChangedKey h = h

pub inherits_gap : (p : GhostProtocol) (heir : ℕ → ℕ) (x y : Hold) → y.rolling ≡ false → (Protects ReadKey y) ⊎ (Protects ReadGap y) → Protects ReadGap (inherits p heir x y)
inherits_gap p heir x y unrolled h =
    subst (λ b. Protects ReadGap (if b then x else inheriting p heir x y)) (sym unrolled)
    (or_second x.gap (y.gap || is_read y.key) (⊎_elim (λ key. or_second y.gap (is_read y.key) key) (λ gap. or_first y.gap (is_read y.key) gap) h))

inherits_key : (p : GhostProtocol) (heir : ℕ → ℕ) (x y : Hold) → (inherits p heir x y).key ≡ x.key
inherits_key p heir x y = by y.rolling
  where
    by : (b : Bool) → (if b then x else inheriting p heir x y).key ≡ x.key
    by true = refl
    by false = refl

inherits_rolling : (p : GhostProtocol) (heir : ℕ → ℕ) (x y : Hold) → (inherits p heir x y).rolling ≡ x.rolling
inherits_rolling p heir x y = by y.rolling
  where
    by : (b : Bool) → (if b then x else inheriting p heir x y).rolling ≡ x.rolling
    by true = refl
    by false = refl

inherits_mode : (p : GhostProtocol) (heir : ℕ → ℕ) (x y : Hold) → (inherits p heir x y).mode ≡ (if y.rolling then x.mode else p.table.convert x.mode (heir y.mode))
inherits_mode p heir x y = by y.rolling
  where
    by : (b : Bool) → (if b then x else inheriting p heir x y).mode ≡ (if b then x.mode else p.table.convert x.mode (heir y.mode))
    by true = refl
    by false = refl

-- The lock states after a purge of k --

module _ (p : GhostProtocol) (laws : IsLawfulGhost p) (heir : ℕ → ℕ) (is_heir : p.purges ≡ Inherit heir) (fit : IsLawfulPurge p.table (Inherit heir)) (m e e' : Map)
    (s : State) (locks : AreLocks p.table s.locks) (part : Parts) (hold : Holds) (z : Sim p m e s.locks part hold)
    (k : ℕ) (n : Name) (apart : n ≢ Key k) (nobody : (u : ℕ) → Changed (part u) k → ⊥) (rolls : (u : ℕ) → is_rolling s u ≡ (part u).rolling) (absent : has m k ≡ false)
    (names : (y : ℕ) → has e' y ≡ false → (y ≡ k) ⊎ ((has e y ≡ false) × (Key y ≢ n))) where
  abbrev is_name : Name → Name → Bool
  is_name a b = same (a, 0) (b, 0)

  -- Nothing on k, on the next name what is inherited, and on every other name what was there.
  abbrev pub purged_holds : Holds
  purged_holds u x = cond (is_name x (Key k)) (idle (part u).rolling) (cond (is_name x n) (inherits p heir (hold u n) (hold u (Key k))) (hold u x))

  named_itself : (a : Name) → is_name a a ≡ true
  named_itself a = same_itself (a, 0)

  named_apart : (a b : Name) → a ≢ b → is_name a b ≡ false
  named_apart a b ne = by (is_name a b) refl
    where
      by : (c : Bool) → is_name a b ≡ c → is_name a b ≡ false
      by true is = absurd (ne (ap (λ (x : Name × ℕ). x.0) (same_holder (a, 0) (b, 0) is)))
      by false is = is

  at_ghost : (u : ℕ) → purged_holds u (Key k) ≡ idle (part u).rolling
  at_ghost u = ap (λ b. cond b (idle (part u).rolling) (cond (is_name (Key k) n) (inherits p heir (hold u n) (hold u (Key k))) (hold u (Key k)))) (named_itself (Key k))

  pub at_next : (u : ℕ) → purged_holds u n ≡ inherits p heir (hold u n) (hold u (Key k))
  at_next u =
      ap (λ b. cond b (idle (part u).rolling) (cond (is_name n n) (inherits p heir (hold u n) (hold u (Key k))) (hold u n))) (named_apart n (Key k) apart)
      ∙ ap (λ b. cond b (inherits p heir (hold u n) (hold u (Key k))) (hold u n)) (named_itself n)

  pub at_others : (u : ℕ) (x : Name) → x ≢ Key k → x ≢ n → purged_holds u x ≡ hold u x
  at_others u x nk nn =
      ap (λ b. cond b (idle (part u).rolling) (cond (is_name x n) (inherits p heir (hold u n) (hold u (Key k))) (hold u x))) (named_apart x (Key k) nk)
      ∙ ap (λ b. cond b (inherits p heir (hold u n) (hold u (Key k))) (hold u x)) (named_apart x n nn)

  -- What holds on the ghost, on the next name and on all others holds everywhere.
  by_name : (P : Name → Type 0) → P (Key k) → P n → ((x : Name) → x ≢ Key k → x ≢ n → P x) → (x : Name) → P x
  by_name P ghost next others x = ⊎_elim
      (λ is. subst P (sym is) ghost)
      (λ nk. ⊎_elim (λ is. subst P (sym is) next) (λ nn. others x nk nn) (name_or_not x n))
      (name_or_not x (Key k))

  unchanged : (u : ℕ) → is_changed (hold u (Key k)).key ≡ false
  unchanged u = unchanged_fits p m e s.locks part hold z k nobody u

  on_ghost_beside : (u w : ℕ) → u ≢ w → Beside p false (hold u (Key k)) (hold w (Key k))
  on_ghost_beside u w ne = subst (λ b. Beside p b (hold u (Key k)) (hold w (Key k))) absent (z.beside u w (Key k) ne)

  on_ghost_alone : (u : ℕ) → Beside p false (hold u (Key k)) free
  on_ghost_alone u = subst (λ b. Beside p b (hold u (Key k)) free) absent (z.alone u (Key k))

  roll_alike : (u : ℕ) → (hold u n).rolling ≡ (hold u (Key k)).rolling
  roll_alike u = z.rolls u n ∙ sym (z.rolls u (Key k))

  nothing_inherited : inherits p heir free free ≡ free
  nothing_inherited =
      ap (λ (h : ℕ). record { mode = h; key = KeyFree; gap = false; rolling = false }) (ap (λ q. p.table.convert 0 q) fit.0 ∙ (let w = laws.table in w.convert-none_held 0 (omega arith)))

  next_mode : (u : ℕ) → (inherits p heir (hold u n) (hold u (Key k))).mode ≡ own (inherited p.table laws.table heir fit s locks k n apart) u n
  next_mode u =
      inherits_mode p heir (hold u n) (hold u (Key k))
      ∙ ap (λ b. if b then (hold u n).mode else p.table.convert (hold u n).mode (heir (hold u (Key k)).mode)) (z.rolls u (Key k) ∙ sym (rolls u))
      ∙ ap (λ h. if is_rolling s u then h else p.table.convert h (heir (hold u (Key k)).mode)) (z.mode u n)
      ∙ ap (λ h. if is_rolling s u then own s.locks u n else p.table.convert (own s.locks u n) (heir h)) (z.mode u (Key k))
      ∙ sym (on_next p.table laws.table heir fit s locks k n apart u)

  -- So the lock states fit the index without the ghost.
  pub purged_sim : Sim p m e' (inherited p.table laws.table heir fit s locks k n apart) part purged_holds
  purged_sim = record {
    mode = λ u. by_name (λ x. (purged_holds u x).mode ≡ own (inherited p.table laws.table heir fit s locks k n apart) u x)
        (ap (λ (h : Hold). h.mode) (at_ghost u) ∙ sym (on_ghost p.table laws.table heir fit s locks k n apart u))
        (ap (λ (h : Hold). h.mode) (at_next u) ∙ next_mode u)
        (λ x nk nn. ap (λ (h : Hold). h.mode) (at_others u x nk nn) ∙ z.mode u x ∙ sym (on_others p.table laws.table heir fit s locks k n apart u x nk nn));
    rolls = λ u. by_name (λ x. (purged_holds u x).rolling ≡ (part u).rolling)
        (ap (λ (h : Hold). h.rolling) (at_ghost u))
        (ap (λ (h : Hold). h.rolling) (at_next u) ∙ inherits_rolling p heir (hold u n) (hold u (Key k)) ∙ z.rolls u n)
        (λ x nk nn. ap (λ (h : Hold). h.rolling) (at_others u x nk nn) ∙ z.rolls u x);
    none = λ u y gone. ⊎_elim
        (λ is. subst (λ w. purged_holds u (Key w) ≡ idle (part u).rolling) (sym is) (at_ghost u))
        (λ old. ⊎_elim
        (λ is. subst (λ w. purged_holds u (Key w) ≡ idle (part u).rolling) (sym is) (at_ghost u))
        (λ ne. at_others u (Key y) (λ is. ne (key_is y k is)) old.1 ∙ z.none u y old.0)
        (cases_eq y k))
        (names y gone);
    fits = λ u. by_name (λ x. Fits (olds_at (part u).changes x) (purged_holds u x).key)
        (subst (λ h. Fits (olds (part u).changes k) h.key) (sym (at_ghost u)) (subst (λ os. Fits os KeyFree) (sym (no_olds (part u).changes k (nobody u))) tt))
        (subst (λ h. Fits (olds_at (part u).changes n) h.key) (sym (at_next u)) (subst (λ b. Fits (olds_at (part u).changes n) b) (sym (inherits_key p heir (hold u n) (hold u (Key k)))) (z.fits u n)))
        (λ x nk nn. subst (λ h. Fits (olds_at (part u).changes x) h.key) (sym (at_others u x nk nn)) (z.fits u x));
    alone = λ u. by_name (λ x. Beside p (status m x) (purged_holds u x) free)
        (subst (λ h. Beside p (status m (Key k)) h free) (sym (at_ghost u)) (idle_both p (status m (Key k)) (part u).rolling false))
        (subst (λ h. Beside p (status m n) h free) (sym (at_next u)) (subst (λ h. Beside p (status m n) (inherits p heir (hold u n) (hold u (Key k))) h) nothing_inherited
        (purge heir (status m n) (hold u n) free (hold u (Key k)) free is_heir (z.alone u n) (on_ghost_alone u) (unchanged u) refl (roll_alike u) refl)))
        (λ x nk nn. subst (λ h. Beside p (status m x) h free) (sym (at_others u x nk nn)) (z.alone u x));
    beside = λ u w x ne. by_name (λ x. Beside p (status m x) (purged_holds u x) (purged_holds w x))
        (subst (λ h. Beside p (status m (Key k)) h (purged_holds w (Key k))) (sym (at_ghost u))
        (subst (λ h. Beside p (status m (Key k)) (idle (part u).rolling) h) (sym (at_ghost w)) (idle_both p (status m (Key k)) (part u).rolling (part w).rolling)))
        (subst (λ h. Beside p (status m n) h (purged_holds w n)) (sym (at_next u)) (subst (λ h. Beside p (status m n) (inherits p heir (hold u n) (hold u (Key k))) h) (sym (at_next w))
        (purge heir (status m n) (hold u n) (hold w n) (hold u (Key k)) (hold w (Key k)) is_heir (z.beside u w n ne) (on_ghost_beside u w ne) (unchanged u) (unchanged w)
        (roll_alike u) (roll_alike w))))
        (λ x nk nn. subst (λ h. Beside p (status m x) h (purged_holds w x)) (sym (at_others u x nk nn))
        (subst (λ h. Beside p (status m x) (hold u x) h) (sym (at_others w x nk nn)) (z.beside u w x ne)))
        x;
  }

-- No lock --

-- Under a safe protocol who holds no lock on a ghost has nothing to protect there.
module _ (p : GhostProtocol) (laws : IsLawfulGhost p) (safe : IsSafeGhost p) (x : Hold) (b : Beside p false x free) (none : x.mode ≡ 0) (unchanged : is_changed x.key ≡ false) where
  turned : Beside p false free x
  turned = turn false x free b

  not_read : (k : KeyUse) → x.key ≡ k → x.key ≡ KeyFree
  not_read KeyFree is = is
  not_read Read is = absurd (true≢false (
      sym (safe Revive false free x turned (refl, refl) (ap (λ k. is_read k || false) is))
      ∙ ap (λ h. conflicts_with p.table h 0 p.revive) none ∙ open_none p.table laws.table 0 (omega arith) p.revive laws.revive))
  not_read Inserted is = absurd (true≢false (sym (ap is_changed is) ∙ unchanged))
  not_read Updated is = absurd (true≢false (sym (ap is_changed is) ∙ unchanged))
  not_read Deleted is = absurd (true≢false (sym (ap is_changed is) ∙ unchanged))
  not_read Several is = absurd (true≢false (sym (ap is_changed is) ∙ unchanged))

  no_gap : (g : Bool) → x.gap ≡ g → x.gap ≡ false
  no_gap false is = is
  no_gap true is = absurd (true≢false (
      sym (safe Insert false free x turned refl is)
      ∙ ap (λ h. conflicts_with p.table h 0 (p.table.ask row.Insert Next 0)) none
      ∙ open_none p.table laws.table 0 (omega arith) (p.table.ask row.Insert Next 0) (λ q span asks. let w = laws.table in w.ask-mode row.Insert Next 0 q span (omega arith) asks)))

  state_is : (m : ℕ) (k : KeyUse) (g r : Bool) → m ≡ 0 → k ≡ KeyFree → g ≡ false → ◌≡◌ {A = Hold} (record { mode = m; key = k; gap = g; rolling = r }) (idle r)
  state_is m k g r a c d = cc

  pub void_idle : x ≡ idle x.rolling
  void_idle = state_is x.mode x.key x.gap x.rolling none (not_read x.key refl) (no_gap x.gap refl)

-- So where there are no locks on a ghost the lock states fit after its purge as before.
pub unlocked_sim : (p : GhostProtocol) (m e e' : Map) (l : Locks) (part : Parts) (hold : Holds) → Sim p m e l part hold → (k : ℕ)
    → ((u : ℕ) → hold u (Key k) ≡ idle (part u).rolling) → ((y : ℕ) → y ≢ k → has e' y ≡ has e y) → Sim p m e' l part hold
unlocked_sim p m e e' l part hold z k void names = record {
  mode = z.mode;
  rolls = z.rolls;
  none = λ u y gone. ⊎_elim (λ is. subst (λ w. hold u (Key w) ≡ idle (part u).rolling) (sym is) (void u)) (λ ne. z.none u y (sym (names y ne) ∙ gone)) (cases_eq y k);
  fits = z.fits;
  alone = z.alone;
  beside = z.beside;
}
