-- The locks on a name that conflict with a mode are those of the transactions that conflict with the request.
use Rattle.std.proofs.Common.{◌≡◌, ℕ, zero, suc, ◌<◌, ◌≤◌, Bool, true, false, cond, List, [], ◌∷◌, ◌||◌, ◌&&◌, filter, length, get_or, take, take_all, Option, Some, None, sym, ap, ◌∙◌, refl, subst, arith}
use Rattle.std.specs.Prelude.{T, unwrap_or, map, ◌==◌}
use mathlib.Core.Bool.{false≢true, not}
use Rattle.std.proofs.lemmas.Bool.Decides.{nat_tests}
use Rattle.std.specs.declared.cmp.Ordering.{Ordering}
use Rattle.std.specs.declared.cmp.Ordering.TheVariants.{Less, Equal, Greater}
use Rattle.std.specs.Ordering.{nat_cmp, ordering_then, eq_by_cmp, is_eq, is_lt}
use Rattle.std.specs.Cmp.{tied_itself}
use Rattle.std.specs.FinMap.{find, is_sorted}
use Rattle.std.specs.FinMap.Entries.{below_all}
use Rattle.kr_model.specs.declared.Name.{Name}
use Rattle.kr_model.specs.declared.Span.{Span}
use Rattle.kr_model.specs.declared.Span.TheVariants.{Commit}
use Rattle.kr_model.specs.Protocol.{Protocol, IsLawful}
use Rattle.kr_model.specs.Locks.{Locks, Holder, IsLocks, AreWithin, name_cmp, holder_cmp, own, lockers, blockers, conflicts}
use Rattle.kr_model.proofs.LockLaws.{name_total, holder_total, name_exact}
use Rattle.kr_model.proofs.Numbers.{Above, Rising, lockers_rise}
use Rattle.kr_model.proofs.RisingNumbers.{has, has-filter, has-lockers, rising_filter, same_rising}
use Rattle.kr_model.proofs.Keep.{same, same_holder}
use Rattle.kr_locks.specs.List.{locks_on, lock_conflicts}
use Rattle.kr_locks.proofs.OnName.{mode_within}

-- the transactions of the locks that conflict with mode m, in the order of the locks
abbrev pub conflicting : Protocol → ℕ → ℕ → Locks → List ℕ
conflicting p t m ls = map (λ l. l.0.1) (filter (lock_conflicts p t m) ls)

first : (a b : Bool) → T (a && b) → T a
first true b e = tt
first false b e = e

second : (a b : Bool) → T (a && b) → T b
second true b e = e
second false b e = absurd e

less_of : (o : Ordering) → T (is_lt o) → o ≡ Less
less_of Less e = refl
less_of Equal e = absurd e
less_of Greater e = absurd e

equal_of : (o : Ordering) → is_eq o ≡ true → o ≡ Equal
equal_of Less e = absurd (false≢true e)
equal_of Equal e = refl
equal_of Greater e = absurd (false≢true e)

below_of : (x y : ℕ) → nat_cmp x y ≡ Less → x < y
below_of x y e = grind (arith, nat_tests)

on_name : (m n : Name) → eq_by_cmp name_cmp m n ≡ true → m ≡ n
on_name m n e = name_exact m n (equal_of (name_cmp m n) e)

-- They rise --

module _ (p : Protocol) (t m : ℕ) (n : Name) where
  above_step : (x : ℕ) (l : Holder × ℕ) (ls : Locks) → holder_cmp (n, x) l.0 ≡ Less → (b : Bool) → eq_by_cmp name_cmp l.0.0 n ≡ b → Above x (conflicting p t m (locks_on ls n)) → Above x (conflicting p t m (cond b (l ∷ locks_on ls n) (locks_on ls n)))
  above_step x l ls lt false e more = more
  above_step x l ls lt true e more = by (lock_conflicts p t m l)
    where
      tie : name_cmp n l.0.0 ≡ Equal
      tie = ap (λ k. name_cmp n k) (on_name l.0.0 n e) ∙ tied_itself name_total n

      later : x < l.0.1
      later = below_of x l.0.1 (ap (λ o. ordering_then o (nat_cmp x l.0.1)) (sym tie) ∙ lt)

      by : (b : Bool) → Above x (map (λ (k : Holder × ℕ). k.0.1) (cond b (l ∷ filter (lock_conflicts p t m) (locks_on ls n)) (filter (lock_conflicts p t m) (locks_on ls n))))
      by true = (later, more)
      by false = more

  above_conflicting : (x : ℕ) (ls : Locks) → T (below_all holder_cmp (n, x) ls) → Above x (conflicting p t m (locks_on ls n))
  above_conflicting x [] below = tt
  above_conflicting x (l ∷ ls) below = above_step x l ls (less_of (holder_cmp (n, x) l.0) (first _ _ below)) (eq_by_cmp name_cmp l.0.0 n) refl (above_conflicting x ls (second _ _ below))

  rising_step : (l : Holder × ℕ) (ls : Locks) → T (below_all holder_cmp l.0 ls) → (b : Bool) → eq_by_cmp name_cmp l.0.0 n ≡ b → Rising (conflicting p t m (locks_on ls n)) → Rising (conflicting p t m (cond b (l ∷ locks_on ls n) (locks_on ls n)))
  rising_step l ls below false e more = more
  rising_step l ls below true e more = by (lock_conflicts p t m l)
    where
      here : ◌≡◌ {A = Holder} l.0 (n, l.0.1)
      here = ap (λ (k : Name). (k, l.0.1)) (on_name l.0.0 n e)

      lowest : Above l.0.1 (conflicting p t m (locks_on ls n))
      lowest = above_conflicting l.0.1 ls (subst (λ (k : Holder). T (below_all holder_cmp k ls)) here below)

      by : (b : Bool) → Rising (map (λ (k : Holder × ℕ). k.0.1) (cond b (l ∷ filter (lock_conflicts p t m) (locks_on ls n)) (filter (lock_conflicts p t m) (locks_on ls n))))
      by true = (lowest, more)
      by false = more

  rising_conflicting : (ls : Locks) → T (is_sorted holder_cmp ls) → Rising (conflicting p t m (locks_on ls n))
  rising_conflicting [] s = tt
  rising_conflicting (l ∷ ls) s = rising_step l ls (first _ _ s) (eq_by_cmp name_cmp l.0.0 n) refl (rising_conflicting ls (second _ _ s))

-- They are those that the table of locks gives --

-- whether a mode that u holds conflicts with m
abbrev pub judged : Protocol → ℕ → ℕ → ℕ → Option ℕ → Bool
judged p t m u None = false
judged p t m u (Some x) = not (u == t) && not (p.ok m x)

untied : (u v : ℕ) → (u ≡ v → ⊥) → (u == v) ≡ false
untied u v h = grind (arith, nat_tests)

tied : (u : ℕ) → (u == u) ≡ true
tied u = grind (arith, nat_tests)

apart : (b : Bool) → (b ≡ true → ⊥) → b ≡ false
apart true h = absurd (h refl)
apart false h = refl

or_false : (b : Bool) → (b || false) ≡ b
or_false true = refl
or_false false = refl

module _ (p : Protocol) (t m : ℕ) (n : Name) where
  not_found : (k : Holder) (ls : Locks) → T (below_all holder_cmp k ls) → find holder_cmp k ls ≡ None
  not_found k [] below = refl
  not_found k (l ∷ ls) below = ap (λ o. cond (is_eq o) (Some l.1) (find holder_cmp k ls)) (less_of (holder_cmp k l.0) (first _ _ below)) ∙ not_found k ls (second _ _ below)

  -- the lock of another holder changes neither side
  other_step : (u : ℕ) (l : Holder × ℕ) (ls : Locks) → (b : Bool) → eq_by_cmp name_cmp l.0.0 n ≡ b → same (n, u) l.0 ≡ false → has (conflicting p t m (cond b (l ∷ locks_on ls n) (locks_on ls n))) u ≡ has (conflicting p t m (locks_on ls n)) u
  other_step u l ls false e differs = refl
  other_step u l ls true e differs = by (lock_conflicts p t m l)
    where
      other : (u == l.0.1) ≡ false
      other = untied u l.0.1 (λ i. false≢true (sym differs ∙ ap (λ (k : Holder). same k l.0) (ap (λ (k : Name). let h : Holder = (k, u) in h) (sym (on_name l.0.0 n e)) ∙ ap (λ (v : ℕ). let h : Holder = (l.0.0, v) in h) i) ∙ ap is_eq (tied_itself holder_total l.0)))

      by : (b : Bool) → has (map (λ (k : Holder × ℕ). k.0.1) (cond b (l ∷ filter (lock_conflicts p t m) (locks_on ls n)) (filter (lock_conflicts p t m) (locks_on ls n)))) u ≡ has (conflicting p t m (locks_on ls n)) u
      by true = ap (λ b. b || has (conflicting p t m (locks_on ls n)) u) other
      by false = refl

  -- the holder's own lock decides
  own_step : (l : Holder × ℕ) (ls : Locks) → has (conflicting p t m (locks_on ls n)) l.0.1 ≡ false → l.0.0 ≡ n → has (conflicting p t m (cond (eq_by_cmp name_cmp l.0.0 n) (l ∷ locks_on ls n) (locks_on ls n))) l.0.1 ≡ judged p t m l.0.1 (Some l.1)
  own_step l ls none here = ap (λ b. has (conflicting p t m (cond b (l ∷ locks_on ls n) (locks_on ls n))) l.0.1) stands ∙ by (lock_conflicts p t m l)
    where
      stands : eq_by_cmp name_cmp l.0.0 n ≡ true
      stands = ap is_eq (ap (λ k. name_cmp k n) here ∙ tied_itself name_total n)

      by : (b : Bool) → has (map (λ (k : Holder × ℕ). k.0.1) (cond b (l ∷ filter (lock_conflicts p t m) (locks_on ls n)) (filter (lock_conflicts p t m) (locks_on ls n)))) l.0.1 ≡ b
      by true = ap (λ b. b || has (conflicting p t m (locks_on ls n)) l.0.1) (tied l.0.1)
      by false = none

  has-conflicting : (u : ℕ) (ls : Locks) → T (is_sorted holder_cmp ls) → has (conflicting p t m (locks_on ls n)) u ≡ judged p t m u (find holder_cmp (n, u) ls)
  has-conflicting u [] s = refl
  has-conflicting u (l ∷ ls) s = by (has-conflicting u ls (second _ _ s)) (same (n, u) l.0) refl
    where
      by : has (conflicting p t m (locks_on ls n)) u ≡ judged p t m u (find holder_cmp (n, u) ls) → (b : Bool) → same (n, u) l.0 ≡ b → has (conflicting p t m (locks_on (l ∷ ls) n)) u ≡ judged p t m u (cond b (Some l.1) (find holder_cmp (n, u) ls))
      by more false e = other_step u l ls (eq_by_cmp name_cmp l.0.0 n) refl e ∙ more
      by more true e =
          let is : ◌≡◌ {A = Holder} (n, u) l.0 = same_holder (n, u) l.0 e in
          let none : has (conflicting p t m (locks_on ls n)) u ≡ false = more ∙ ap (judged p t m u) (not_found (n, u) ls (subst (λ (k : Holder). T (below_all holder_cmp k ls)) (sym is) (first _ _ s))) in
          let name : n ≡ l.0.0 = ap (λ (k : Holder). k.0) is in
          let txn : u ≡ l.0.1 = ap (λ (k : Holder). k.1) is in
          subst (λ (v : ℕ). has (conflicting p t m (locks_on (l ∷ ls) n)) v ≡ judged p t m v (Some l.1)) (sym txn) (own_step l ls (subst (λ (v : ℕ). has (conflicting p t m (locks_on ls n)) v ≡ false) txn none) (sym name))

-- The blockers --

-- a converted mode is at most the count
pub converted_within : (p : Protocol) (h q : ℕ) → IsLawful p → h ≤ p.count → q ≤ p.count → p.convert h q ≤ p.count
converted_within p zero q laws le few = rw (laws.convert-none_held q few) few
converted_within p (suc h) zero laws le few = rw (laws.convert-none_asked (suc h) le) le
converted_within p (suc h) (suc q) laws le few =
    let mode = laws.convert-modes (suc h) (suc q) (record { some = omega arith; in_range = le }) (record { some = omega arith; in_range = few }) in
    mode.in_range

no_conflict : (a b : Bool) → b ≡ true → (a && not b) ≡ false
no_conflict true b e = ap not e
no_conflict false b e = refl

conflict : (a b : Bool) → (a && not b) ≡ true → b ≡ true → ⊥
conflict true b e f = false≢true (sym (ap not f) ∙ e)
conflict false b e f = false≢true e

and_self : (a b : Bool) → (b ≡ true → a ≡ true) → b ≡ (a && b)
and_self true b h = refl
and_self false true h = sym (h refl)
and_self false false h = refl

-- the transactions of the conflicting locks on the name are the blockers of the request
pub conflicting_are : (p : Protocol) (h : Locks) (t : ℕ) (n : Name) (q : ℕ) (span : Span) (m : ℕ) → IsLawful p → IsLocks h → m ≤ p.count → m ≡ p.convert (own h t n) q → conflicting p t m (locks_on h n) ≡ blockers p h t ((n, q, span) ∷ [])
conflicting_are p h t n q span m laws s few is = same_rising (conflicting p t m (locks_on h n)) (blockers p h t ((n, q, span) ∷ [])) (rising_conflicting p t m n h sorted) (rising_filter asked (lockers h) (lockers_rise h)) alike
  where
    sorted : T (is_sorted holder_cmp h)
    sorted = subst (λ b. T b) (sym s) tt

    asked : ℕ → Bool
    asked u = conflicts p h t (n, q, span) u || false

    judge : (u : ℕ) (f : Option ℕ) → judged p t m u f ≡ (not (u == t) && not (p.ok m (unwrap_or f 0)))
    judge u None = sym (no_conflict (not (u == t)) (p.ok m 0) (laws.ok-none_held m few))
    judge u (Some x) = refl

    is_asked : (u : ℕ) → judged p t m u (find holder_cmp (n, u) h) ≡ asked u
    is_asked u = judge u (find holder_cmp (n, u) h) ∙ ap (λ k. not (u == t) && not (p.ok k (own h u n))) is ∙ sym (or_false (conflicts p h t (n, q, span) u))

    holds : (u : ℕ) → asked u ≡ true → own h u n ≡ 0 → ⊥
    holds u e none = conflict (not (u == t)) (p.ok m (own h u n)) (ap (λ k. not (u == t) && not (p.ok k (own h u n))) is ∙ sym (or_false (conflicts p h t (n, q, span) u)) ∙ e) (ap (p.ok m) none ∙ laws.ok-none_held m few)

    alike : (u : ℕ) → has (conflicting p t m (locks_on h n)) u ≡ has (blockers p h t ((n, q, span) ∷ [])) u
    alike u = has-conflicting p t m n u h sorted ∙ is_asked u ∙ and_self (has (lockers h) u) (asked u) (λ e. has-lockers h u n (holds u e)) ∙ sym (has-filter asked (lockers h) u)

-- What the loops over the locks on a name need --

conflicting_first : (p : Protocol) (t m : ℕ) (l : Holder × ℕ) (ls : Locks) (b : Bool) → b ≡ true → map (λ (k : Holder × ℕ). k.0.1) (cond b (l ∷ filter (lock_conflicts p t m) ls) (filter (lock_conflicts p t m) ls)) ≡ [] → ⊥
conflicting_first p t m l ls true e none = cc
conflicting_first p t m l ls false e none = false≢true e

conflicting_later : (p : Protocol) (t m : ℕ) (l : Holder × ℕ) (ls : Locks) (b : Bool) → (conflicting p t m ls ≡ [] → ⊥) → map (λ (k : Holder × ℕ). k.0.1) (cond b (l ∷ filter (lock_conflicts p t m) ls) (filter (lock_conflicts p t m) ls)) ≡ [] → ⊥
conflicting_later p t m l ls true some none = cc
conflicting_later p t m l ls false some none = some none

some_conflicting : (p : Protocol) (t m : ℕ) (ls : Locks) (i : ℕ) (d : Holder × ℕ) → i < length ls → lock_conflicts p t m (get_or ls i d) ≡ true → conflicting p t m ls ≡ [] → ⊥
some_conflicting p t m [] i d lt e none = omega arith
some_conflicting p t m (l ∷ ls) zero d lt e none = conflicting_first p t m l ls (lock_conflicts p t m l) e none
some_conflicting p t m (l ∷ ls) (suc i) d lt e none = conflicting_later p t m l ls (lock_conflicts p t m l) (some_conflicting p t m ls i d (omega arith) e) none

-- a request: the protocol, the locks, the transaction, the name, the mode asked, the converted mode, and the locks on the name
pub record IsAsked (p : Protocol) (h : Locks) (t : ℕ) (n : Name) (q m : ℕ) (part : Locks) : Type 0 where
  pub laws : IsLawful p
  pub in_order : IsLocks h
  pub within : AreWithin p.count h
  pub few : q ≤ p.count
  pub converted : m ≡ p.convert (own h t n) q
  pub on_name : part ≡ locks_on h n

module _ (p : Protocol) (h : Locks) (t : ℕ) (n : Name) (q m : ℕ) (part : Locks) (a : IsAsked p h t n q m part) where
  -- the converted mode is at most the count
  pub asked_within : m ≤ p.count
  asked_within = rw a.converted (converted_within p (own h t n) q a.laws (a.within t n) a.few)

  -- so is each held one
  pub part_within : (i : ℕ) (d : Holder × ℕ) → i < length part → (get_or part i d).1 ≤ p.count
  part_within i d lt = rw a.on_name (mode_within h n p.count i d a.in_order a.within (rw (← a.on_name) lt))

  -- after the last lock all blockers are there
  pub blockers_found : (i : ℕ) (us : List ℕ) → length part ≤ i → us ≡ conflicting p t m (take i part) → us ≡ blockers p h t ((n, q, Commit) ∷ [])
  blockers_found i us le is = is ∙ ap (conflicting p t m) (take_all i part le ∙ a.on_name) ∙ conflicting_are p h t n q Commit m a.laws a.in_order asked_within a.converted

  -- after the last lock nobody conflicts
  pub none_conflicts : (i : ℕ) → length part ≤ i → filter (lock_conflicts p t m) (take i part) ≡ [] → blockers p h t ((n, q, Commit) ∷ []) ≡ []
  none_conflicts i le none = sym (blockers_found i (conflicting p t m (take i part)) le refl) ∙ ap (λ (ls : Locks). map (λ (k : Holder × ℕ). k.0.1) ls) none

  -- a lock that conflicts is a blocker's
  pub one_conflicts : (i : ℕ) (d : Holder × ℕ) → i < length part → lock_conflicts p t m (get_or part i d) ≡ true → blockers p h t ((n, q, Commit) ∷ []) ≡ [] → ⊥
  one_conflicts i d lt e none =
      some_conflicting p t m part i d lt e (ap (conflicting p t m) a.on_name ∙ conflicting_are p h t n q Commit m a.laws a.in_order asked_within a.converted ∙ none)
