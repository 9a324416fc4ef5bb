-- What becomes of the locks on a ghost that is purged.
use Rattle.std.specs.Prelude.{◌≡◌, ℕ, ◌≤◌, Bool, true, false, not, ◌||◌, ◌==◌, cond, if◌then◌else◌, List, [], ◌∷◌, refl, ◌⊎◌}
use Rattle.std.specs.List.{list_any}
use Rattle.std.proofs.Common.{sym, ◌∙◌, ap, subst, inl, inr, ⊎_elim, ◌≢◌, arith, true≢false}
use Rattle.std.proofs.lemmas.Bool.{cases_eq, cases_Bool}
use Rattle.std.proofs.lemmas.Bool.Decides.{nat_tests}
use Rattle.kr_model.specs.declared.Name.{Name}
use Rattle.kr_model.specs.declared.Name.TheVariants.{Key}
use Rattle.kr_model.specs.Protocol.{Protocol, IsLawful}
use Rattle.kr_model.specs.Locks.{Locks, own, keep_or_drop, lockers}
use Rattle.kr_model.specs.State.{State, is_rolling}
use Rattle.kr_model.proofs.Actives.{untied}
use Rattle.kr_model.proofs.Keep.{same, own-kept, same_holder, same_itself, IsLocks-keep, AreWithin-keep, HasNoNone-keep}
use Rattle.kr_model.proofs.Requests.{AreLocks}
use Rattle.kr_model.proofs.RisingNumbers.{has, has-lockers}
use Rattle.kr_theorem.proofs.run.Actives.{or_left, or_right}
use Rattle.kr_ghost.specs.Protocol.{Inherit, IsLawfulPurge}
use Rattle.kr_ghost.specs.Step.{inherits, all_inherit, is_locked}
use Rattle.kr_ghost.proofs.Names.{same_of}

-- The mode after one lock is set.
set_here : (h : Locks) (t : ℕ) (n : Name) (m : ℕ) → own (keep_or_drop h t n m) t n ≡ m
set_here h t n m = own-kept h t t n n m ∙ ap (λ b. cond b m (own h t n)) (same_itself (n, t))

set_apart : (h : Locks) (t : ℕ) (n : Name) (m u : ℕ) (x : Name) → ((u ≡ t) × (x ≡ n) → ⊥) → own (keep_or_drop h t n m) u x ≡ own h u x
set_apart h t n m u x out = own-kept h t u n x m ∙ ap (λ b. cond b m (own h u x)) (other (same (x, u) (n, t)) refl)
  where
    second : (x n : Name) (u t : ℕ) → ◌≡◌ {A = Name × ℕ} (x, u) (n, t) → (u ≡ t) × (x ≡ n)
    second x n u t is = (ap (λ (z : Name × ℕ). z.1) is, ap (λ (z : Name × ℕ). z.0) is)

    other : (b : Bool) → same (x, u) (n, t) ≡ b → same (x, u) (n, t) ≡ false
    other true is = absurd (out (second x n u t (same_holder (x, u) (n, t) is)))
    other false is = is

module _ (p : Protocol) (laws : IsLawful p) (heir : ℕ → ℕ) (fit : IsLawfulPurge p (Inherit heir)) (s : State) (locks : AreLocks p s.locks) (k : ℕ) (n : Name) (apart : n ≢ Key k) where
  -- The mode of u on the next name once it has inherited.
  abbrev pub passed : ℕ → ℕ
  passed u = if is_rolling s u then own s.locks u n else p.convert (own s.locks u n) (heir (own s.locks u (Key k)))

  convert_within : (h q : ℕ) → h ≤ p.count → q ≤ p.count → p.convert h q ≤ p.count
  convert_within h q ih iq = ⊎_elim
      (λ e. subst (λ z. p.convert z q ≤ p.count) (sym e) (subst (λ z. z ≤ p.count) (sym (laws.convert-none_held q iq)) iq))
      (λ a. ⊎_elim
      (λ e. subst (λ z. p.convert h z ≤ p.count) (sym e) (subst (λ z. z ≤ p.count) (sym (laws.convert-none_asked h ih)) ih))
      (λ b. let m = laws.convert-modes h q (record { some = omega (arith, a); in_range = ih }) (record { some = omega (arith, b); in_range = iq }) in m.in_range)
      (cases_eq q 0))
      (cases_eq h 0)

  -- How u stands among these: as before, or it has inherited.
  record Before (h : Locks) (u : ℕ) : Type 0 where
    ghost : own h u (Key k) ≡ own s.locks u (Key k)
    next : own h u n ≡ own s.locks u n

  record After (h : Locks) (u : ℕ) : Type 0 where
    ghost : own h u (Key k) ≡ 0
    next : own h u n ≡ passed u

  -- One that inherits, whether it has done so before or not.
  abbrev moved : Locks → ℕ → Locks
  moved h u = if is_rolling s u then h else keep_or_drop h u n (p.convert (own h u n) (heir (own h u (Key k))))

  moved_other : (b : Bool) (h : Locks) (v m u : ℕ) (x : Name) → ((u ≡ v) × (x ≡ n) → ⊥) → own (if b then h else keep_or_drop h v n m) u x ≡ own h u x
  moved_other true h v m u x out = refl
  moved_other false h v m u x out = set_apart h v n m u x out

  moved_next : (b : Bool) (h : Locks) (u m : ℕ) → own (if b then h else keep_or_drop h u n m) u n ≡ (if b then own h u n else m)
  moved_next true h u m = refl
  moved_next false h u m = set_here h u n m

  next_of : (h : Locks) (u : ℕ) → own (inherits p heir s k n u h) u n ≡ (if is_rolling s u then own h u n else p.convert (own h u n) (heir (own h u (Key k))))
  next_of h u =
      set_apart (moved h u) u (Key k) 0 u n (λ both. apart both.1) ∙ moved_next (is_rolling s u) h u (p.convert (own h u n) (heir (own h u (Key k))))

  from_before : (h : Locks) (u : ℕ) → Before h u → After (inherits p heir s k n u h) u
  from_before h u w = record {
    ghost = set_here (moved h u) u (Key k) 0;
    next = next_of h u ∙ ap (λ z. if is_rolling s u then z else p.convert z (heir (own h u (Key k)))) w.next
        ∙ ap (λ z. if is_rolling s u then own s.locks u n else p.convert (own s.locks u n) (heir z)) w.ghost;
  }

  passed_within : (u : ℕ) → passed u ≤ p.count
  passed_within u = by (is_rolling s u)
    where
      by : (b : Bool) → (if b then own s.locks u n else p.convert (own s.locks u n) (heir (own s.locks u (Key k)))) ≤ p.count
      by true = locks.within u n
      by false = convert_within (own s.locks u n) (heir (own s.locks u (Key k))) (locks.within u n) (fit.1 (own s.locks u (Key k)) (locks.within u (Key k)))

  from_after : (h : Locks) (u : ℕ) → After h u → After (inherits p heir s k n u h) u
  from_after h u w = record {
    ghost = set_here (moved h u) u (Key k) 0;
    next = next_of h u ∙ ap (λ z. if is_rolling s u then z else p.convert z (heir (own h u (Key k)))) w.next
        ∙ ap (λ z. if is_rolling s u then passed u else p.convert (passed u) (heir z)) w.ghost
        ∙ by (is_rolling s u);
  }
    where
      by : (b : Bool) → (if b then passed u else p.convert (passed u) (heir 0)) ≡ passed u
      by true = refl
      by false = ap (λ z. p.convert (passed u) z) fit.0 ∙ laws.convert-none_asked (passed u) (passed_within u)

  other_stays : (h : Locks) (v u : ℕ) (x : Name) → u ≢ v → own (inherits p heir s k n v h) u x ≡ own h u x
  other_stays h v u x ne =
      set_apart (moved h v) v (Key k) 0 u x (λ both. ne both.0) ∙ moved_other (is_rolling s v) h v (p.convert (own h v n) (heir (own h v (Key k)))) u x (λ both. ne both.0)

  elsewhere_stays : (h : Locks) (v u : ℕ) (x : Name) → x ≢ Key k → x ≢ n → own (inherits p heir s k n v h) u x ≡ own h u x
  elsewhere_stays h v u x nk nn =
      set_apart (moved h v) v (Key k) 0 u x (λ both. nk both.1) ∙ moved_other (is_rolling s v) h v (p.convert (own h v n) (heir (own h v (Key k)))) u x (λ both. nn both.1)

  abbrev after_all : List ℕ → Locks
  after_all us = all_inherit p heir s k n us

  -- Who is among them has inherited, and who isn't is as before.
  among_or_not : (us : List ℕ) (u : ℕ) → After (after_all us) u ⊎ ((has us u ≡ false) × Before (after_all us) u)
  among_or_not [] u = inr (refl, record { ghost = refl; next = refl })
  among_or_not (v ∷ us) u = ⊎_elim
      (λ is. inl (subst (λ z. After (inherits p heir s k n z (after_all us)) u) is (⊎_elim (λ a. from_after (after_all us) u a) (λ b. from_before (after_all us) u b.1) (among_or_not us u))))
      (λ ne. ⊎_elim
      (λ a. inl (record { ghost = other_stays (after_all us) v u (Key k) ne ∙ a.ghost; next = other_stays (after_all us) v u n ne ∙ a.next }))
      (λ b. let w = b.1 in inr (
        ap (λ c. c || has us u) (untied u v ne) ∙ b.0,
        record { ghost = other_stays (after_all us) v u (Key k) ne ∙ w.ghost; next = other_stays (after_all us) v u n ne ∙ w.next },
      ))
      (among_or_not us u))
      (cases_eq u v)

  -- Who holds no lock has nothing to inherit.
  no_lock : (u : ℕ) → has (lockers s.locks) u ≡ false → (x : Name) → own s.locks u x ≡ 0
  no_lock u out x = ⊎_elim (λ is. is) (λ held. absurd (true≢false (sym (has-lockers s.locks u x held) ∙ out))) (cases_eq (own s.locks u x) 0)

  -- The locks after the purge.
  abbrev pub inherited : Locks
  inherited = all_inherit p heir s k n (lockers s.locks)

  all_after : (u : ℕ) → After inherited u
  all_after u = ⊎_elim
      (λ a. a)
      (λ b.
      let w = b.1 in
      let none = no_lock u b.0 (Key k) in
      record {
        ghost = w.ghost ∙ none;
        next = w.next ∙ sym (by (is_rolling s u) ∙ refl) ∙ ap (λ z. if is_rolling s u then own s.locks u n else p.convert (own s.locks u n) (heir z)) (sym none);
      })
      (among_or_not (lockers s.locks) u)
    where
      by : (b : Bool) → (if b then own s.locks u n else p.convert (own s.locks u n) (heir 0)) ≡ own s.locks u n
      by true = refl
      by false = ap (λ z. p.convert (own s.locks u n) z) fit.0 ∙ laws.convert-none_asked (own s.locks u n) (locks.within u n)

  -- Afterwards nobody has a lock on the ghost, each has on the next name what it inherits, and every other lock stays.
  pub on_ghost : (u : ℕ) → own inherited u (Key k) ≡ 0
  on_ghost u = let w = all_after u in w.ghost

  pub on_next : (u : ℕ) → own inherited u n ≡ passed u
  on_next u = let w = all_after u in w.next

  elsewhere_all : (us : List ℕ) (u : ℕ) (x : Name) → x ≢ Key k → x ≢ n → own (after_all us) u x ≡ own s.locks u x
  elsewhere_all [] u x nk nn = refl
  elsewhere_all (v ∷ us) u x nk nn = elsewhere_stays (after_all us) v u x nk nn ∙ elsewhere_all us u x nk nn

  pub on_others : (u : ℕ) (x : Name) → x ≢ Key k → x ≢ n → own inherited u x ≡ own s.locks u x
  on_others u x nk nn = elsewhere_all (lockers s.locks) u x nk nn

  -- They are locks.
  kept_locks : (h : Locks) (t : ℕ) (x : Name) (m : ℕ) → m ≤ p.count → AreLocks p h → AreLocks p (keep_or_drop h t x m)
  kept_locks h t x m le l = record {
    rise = IsLocks-keep h t x m l.rise;
    within = AreWithin-keep p.count h t x m l.within le;
    no_none = HasNoNone-keep h t x m l.no_none;
  }

  moved_locks : (b : Bool) (h : Locks) (u m : ℕ) → m ≤ p.count → AreLocks p h → AreLocks p (if b then h else keep_or_drop h u n m)
  moved_locks true h u m le l = l
  moved_locks false h u m le l = kept_locks h u n m le l

  all_locks : (us : List ℕ) → AreLocks p (after_all us)
  all_locks [] = locks
  all_locks (u ∷ us) =
      let l = all_locks us in
      let h = after_all us in
      kept_locks (moved h u) u (Key k) 0 (omega arith)
      (moved_locks (is_rolling s u) h u (p.convert (own h u n) (heir (own h u (Key k))))
      (convert_within (own h u n) (heir (own h u (Key k))) (l.within u n) (fit.1 (own h u (Key k)) (l.within u (Key k)))) l)

  pub are_locks : AreLocks p inherited
  are_locks = all_locks (lockers s.locks)

-- Where the purge waits until there are no locks on the ghost, there are none.
none_locked : (f : ℕ → Bool) (us : List ℕ) → list_any f us ≡ false → (u : ℕ) → has us u ≡ true → f u ≡ false
none_locked f [] h u i = absurd (true≢false (sym i))
none_locked f (v ∷ us) h u i = ⊎_elim
    (λ is. ap f (same_of u v is) ∙ or_left (f v) (list_any f us) h)
    (λ ne. none_locked f us (or_right (f v) (list_any f us) h) u (later (u == v) (has us u) ne i))
    (cases_Bool (u == v))
  where
    later : (a b : Bool) → a ≡ false → (a || b) ≡ true → b ≡ true
    later true b e h = absurd (cc)
    later false b e h = h

-- So nobody has a lock on the ghost.
pub unlocked : (h : Locks) (k : ℕ) → is_locked h (Key k) ≡ false → (u : ℕ) → own h u (Key k) ≡ 0
unlocked h k none u = ⊎_elim
    (λ is. is)
    (λ held. absurd (held (zero_of (own h u (Key k)) (none_locked (λ u. not (own h u (Key k) == 0)) (lockers h) none u (has-lockers h u (Key k) held)))))
    (cases_eq (own h u (Key k)) 0)
  where
    zero_of : (m : ℕ) → not (m == 0) ≡ false → m ≡ 0
    zero_of m h = grind (arith, nat_tests, h)
