-- What transactions inherit of the locks on a ghost, one after another.
use Rattle.std.specs.Prelude.{◌≡◌, ℕ, ◌≤◌, Bool, true, false, cond, if◌then◌else◌, List, ◌∷◌, Option, Some, None, refl, Result, Ok, Err, IsOk, OnOk, OnErr, unwrap_or}
use Rattle.std.specs.Ordering.{nat_cmp, eq_by_cmp}
use Rattle.std.specs.FinMap.{find}
use Rattle.std.proofs.Common.{sym, ◌∙◌, ap, subst, ⊎_elim, ◌≢◌, arith}
use Rattle.std.proofs.lemmas.Bool.{cases_eq}
use Rattle.std.proofs.lemmas.Bool.Decides.{nat_tests}
use Rattle.kr_model.specs.declared.Name.{Name}
use Rattle.kr_model.specs.declared.Name.TheVariants.{Key}
use Rattle.kr_model.specs.Protocol.{Protocol, IsLawful}
use Rattle.kr_model.specs.Locks.{Locks, Holder, IsLocks, HasNoNone, own, keep_or_drop}
use Rattle.kr_model.specs.State.{Active, State, idle}
use Rattle.kr_model.proofs.Keep.{same, own-kept, same_holder, kept_mode, IsLocks-keep, HasNoNone-keep}
use Rattle.kr_model.proofs.Requests.{AreLocks}
use Rattle.kr_txn.specs.declared.Standing.{Standing}
use Rattle.kr_txn.specs.Standings.{entries}
use Rattle.kr_ghost.specs.Protocol.{Purges, Unlocked, Inherit, IsLawfulPurge, heir_of, inherits}
use Rattle.kr_ghost.specs.Step.{locks_purged}
use Rattle.kr_ghost_machine.specs.Heirs.{AllInherit, HasInherited, Inherits, IsHeld, inherited}
use Rattle.kr_ghost_machine.specs.Machine.{AreHeld}
use Rattle.kr_ghost_machine.proofs.Inherited.{as_inherited, convert_within, inherited_by_lockers, purged_as, same_locks, set_apart, set_here}
use Rattle.kr_ghost_machine.proofs.Listed.{listed, not_listed, numbers}

-- What is told of a call that answers `Ok`.
pub told_ok : {A E : Type 0} {P : Type 0} (r : Result A E) → IsOk r → OnOk r P → P
told_ok (Ok a) is told = told
told_ok (Err e) is told = absurd (cc is)

-- What is told of it, whichever it answers.
pub told_either : {A E : Type 0} {P Q R : Type 0} (r : Result A E) → (P → R) → (Q → R) → OnOk r P → OnErr r Q → R
told_either (Ok a) f h p q = f p
told_either (Err e) f h p q = h q

-- The heirs' modes are modes, and no lock leaves none, also where locks aren't inherited.
pub heirs_fit : (p : Protocol) (x : Purges) → IsLawfulPurge p x → IsLawfulPurge p (Inherit (heir_of x))
heirs_fit p Unlocked fit = (refl, λ h le. omega arith)
heirs_fit p (Inherit heir) fit = fit

-- To keep the own mode changes nothing.
pub kept_own : (h : Locks) (t : ℕ) (n : Name) → IsLocks h → HasNoNone h → h ≡ keep_or_drop h t n (own h t n)
kept_own h t n rise none =
    same_locks h (keep_or_drop h t n (own h t n)) rise none (IsLocks-keep h t n (own h t n) rise) (HasNoNone-keep h t n (own h t n) none) (λ u x. sym (own-kept h t u n x (own h t n) ∙ by u x (same (x, u) (n, t)) refl))
  where
    by : (u : ℕ) (x : Name) (b : Bool) → same (x, u) (n, t) ≡ b → cond b (own h t n) (own h u x) ≡ own h u x
    by u x true e = ap (λ (q : Holder). own h q.1 q.0) (sym (same_holder (x, u) (n, t) e))
    by u x false e = refl

-- Who held a lock on the ghost before another took on a lock elsewhere.
pub held_before : (h : Locks) (t : ℕ) (n x : Name) (m : ℕ) → n ≢ x → IsHeld (keep_or_drop h t n m) x → IsHeld h x
held_before h t n x m apart held = (held.0, λ none. held.1 (set_apart h t n m held.0 x (λ both. apart (sym both.1)) ∙ none))

same_number : (u : ℕ) → eq_by_cmp nat_cmp u u ≡ true
same_number u = grind (arith, nat_tests)

other_number : (u t : ℕ) → u ≢ t → eq_by_cmp nat_cmp u t ≡ false
other_number u t ne = grind (arith, nat_tests)

module _ (p : Protocol) (laws : IsLawful p) (heir : ℕ → ℕ) (fit : IsLawfulPurge p (Inherit heir)) where
  pub inherited_within : (h : Locks) (k : ℕ) (n : Name) (t : ℕ) → AreLocks p h → p.convert (own h t n) (heir (own h t (Key k))) ≤ p.count
  inherited_within h k n t l = convert_within p laws (own h t n) (heir (own h t (Key k))) (l.within t n) (fit.1 (own h t (Key k)) (l.within t (Key k)))

  -- Who holds a lock on the next name holds one still.
  pub stays_held : (h : Locks) (k : ℕ) (n : Name) (t : ℕ) → AreLocks p h → own h t n ≢ 0 → p.convert (own h t n) (heir (own h t (Key k))) ≢ 0
  stays_held h k n t l some is =
      let w = own h t n in
      let q = heir (own h t (Key k)) in
      ⊎_elim
      (λ e. some (sym (ap (p.convert w) e ∙ laws.convert-none_asked w (l.within t n)) ∙ is))
      (λ ne. let mode = kept_mode p w q laws (l.within t n) (omega (arith, ne)) (fit.1 (own h t (Key k)) (l.within t (Key k))) in absurd (omega (arith, mode.some, is)))
      (cases_eq q 0)

  -- Who has no lock on the ghost inherits none.
  pub nothing_there : (h : Locks) (k : ℕ) (n : Name) (t : ℕ) → AreLocks p h → own h t (Key k) ≡ 0 → p.convert (own h t n) (heir (own h t (Key k))) ≡ own h t n
  nothing_there h k n t l none = ap (λ z. p.convert (own h t n) (heir z)) none ∙ ap (p.convert (own h t n)) fit.0 ∙ laws.convert-none_asked (own h t n) (l.within t n)

-- One that isn't among the others takes on its lock, the others inherit, and then its lock on the ghost goes: so all have inherited.
pub first_inherits : (p : Protocol) (heir : ℕ → ℕ) (h l m : Locks) (k : ℕ) (n : Name) (t : ℕ) (a : Active) (es : List (ℕ × Active)) → n ≢ Key k → find nat_cmp t es ≡ None
    → l ≡ keep_or_drop h t n (inherited p heir h k n a.rolling t) → AllInherit p heir l m k n es → AllInherit p heir h (keep_or_drop m t (Key k) 0) k n ((t, a) ∷ es)
first_inherits p heir h l m k n t a es apart out took all u = ⊎_elim
    (λ is. subst (λ z. Inherits p heir h (keep_or_drop m t (Key k) 0) k n z (find nat_cmp z ((t, a) ∷ es))) (sym is)
    (subst (λ b. Inherits p heir h (keep_or_drop m t (Key k) 0) k n t (cond b (Some a) (find nat_cmp t es))) (sym (same_number t)) itself))
    (λ ne. subst (λ b. Inherits p heir h (keep_or_drop m t (Key k) 0) k n u (cond b (Some a) (find nat_cmp u es))) (sym (other_number u t ne)) (other ne (find nat_cmp u es) (all u)))
    (cases_eq u t)
  where
    rest_same : (x : Name) → own m t x ≡ own l t x
    rest_same = subst (Inherits p heir l m k n t) out (all t)

    taken : (x : Name) → own l t x ≡ own (keep_or_drop h t n (inherited p heir h k n a.rolling t)) t x
    taken x = ap (λ z. own z t x) took

    itself : HasInherited p heir h (keep_or_drop m t (Key k) 0) k n a.rolling t
    itself = record {
      key = set_here m t (Key k) 0;
      next = set_apart m t (Key k) 0 t n (λ both. apart both.1) ∙ rest_same n ∙ taken n ∙ set_here h t n (inherited p heir h k n a.rolling t);
      others = λ x nk nn. set_apart m t (Key k) 0 t x (λ both. nk both.1) ∙ rest_same x ∙ taken x ∙ set_apart h t n (inherited p heir h k n a.rolling t) t x (λ both. nn both.1);
    }

    stayed : u ≢ t → (x : Name) → own l u x ≡ own h u x
    stayed ne x = ap (λ z. own z u x) took ∙ set_apart h t n (inherited p heir h k n a.rolling t) u x (λ both. ne both.0)

    left : u ≢ t → (x : Name) → own (keep_or_drop m t (Key k) 0) u x ≡ own m u x
    left ne x = set_apart m t (Key k) 0 u x (λ both. ne both.0)

    other : u ≢ t → (o : Option Active) → Inherits p heir l m k n u o → Inherits p heir h (keep_or_drop m t (Key k) 0) k n u o
    other ne None same = λ x. left ne x ∙ same x ∙ stayed ne x
    other ne (Some b) has = record {
      key = left ne (Key k) ∙ has.key;
      next = left ne n ∙ has.next
          ∙ ap (λ z. if b.rolling then z else p.convert z (heir (own l u (Key k)))) (stayed ne n)
          ∙ ap (λ z. if b.rolling then own h u n else p.convert (own h u n) (heir z)) (stayed ne (Key k));
      others = λ x nk nn. left ne x ∙ has.others x nk nn ∙ stayed ne x;
    }

-- What a purge leaves --

-- Where each active transaction has inherited, the locks are those that a purge leaves.
pub all_purged : (p : Protocol) (laws : IsLawful p) (x : Purges) (fit : IsLawfulPurge p x) (s : State) (xs : List Standing) (l : Locks) (k : ℕ) (n : Name) → inherits x ≡ true → n ≢ Key k → AreLocks p s.locks → AreLocks p l
    → s.active ≡ entries xs → AreHeld s.locks (entries xs) → AllInherit p (heir_of x) s.locks l k n (entries xs) → l ≡ locks_purged p x s k n
all_purged p laws x fit s xs l k n is apart old new same held all =
    as_inherited p laws heir fits s old k n apart us l new.rise new.no_none
    (λ u out y. subst (Inherits p heir s.locks l k n u) (not_listed xs u out) (all u) y)
    (λ u there. subst (λ es. HasInherited p heir s.locks l k n (unwrap_or (find nat_cmp u es) idle).rolling u) (sym same) (found u (find nat_cmp u (entries xs)) (listed xs u there) (all u)))
    ∙ inherited_by_lockers p laws heir fits s old k n apart us (λ u out y. held u (not_listed xs u out) y)
    ∙ sym (purged_as p x s k n is)
  where
    heir : ℕ → ℕ
    heir = heir_of x

    fits : IsLawfulPurge p (Inherit (heir_of x))
    fits = heirs_fit p x fit

    us : List ℕ
    us = numbers xs

    found : (u : ℕ) (o : Option Active) → (o ≡ None → ⊥) → Inherits p (heir_of x) s.locks l k n u o → HasInherited p (heir_of x) s.locks l k n (unwrap_or o idle).rolling u
    found u None some one = absurd (some refl)
    found u (Some a) some one = one

-- And who isn't active holds none.
pub still_held : (p : Protocol) (heir : ℕ → ℕ) (h l : Locks) (k : ℕ) (n : Name) (es : List (ℕ × Active)) → AreHeld h es → AllInherit p heir h l k n es → AreHeld l es
still_held p heir h l k n es held all u none x = subst (Inherits p heir h l k n u) none (all u) x ∙ held u none x
