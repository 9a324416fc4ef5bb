-- From a test that is computed over a whole table to the rule at each entry.
use Rattle.std.specs.Prelude.{◌≡◌, ℕ, suc, zero, ◌+◌, ◌<◌, ◌≤◌, Bool, true, false, ◌&&◌, ◌||◌, ◌==◌, nat_le, nat_lt, List, [], ◌∷◌, Option, Some, None, refl, ◌⊎◌, map, slice_index_or}
use Rattle.std.specs.List.{list_all}
use Rattle.std.specs.Bool.{beq}
use Rattle.std.proofs.Common.{subst, arith, inl, inr}
use Rattle.std.proofs.lemmas.Bool.Decides.{nat_tests}
use Rattle.kr_model.specs.Covers.{count_up, modes, modes_or_none}
use Rattle.kr_model.specs.Protocol.{Protocol, IsLawful, IsMode, MovesNoKey}
use Rattle.kr_model.specs.declared.Row.{Row}
use Rattle.kr_model.specs.declared.Row.TheVariants.{FetchHit, FetchMiss, ScanKey, ScanStop, Insert, Delete, Update}
use Rattle.kr_model.specs.declared.Side.{Side}
use Rattle.kr_model.specs.declared.Side.TheVariants.{Current, Next}
use Rattle.kr_model.specs.declared.Span.{Span}
use Rattle.kr_model.specs.declared.Span.TheVariants.{Instant, Commit}

-- of two tests that hold together, the first holds
pub and_first : (a b : Bool) → (a && b) ≡ true → a ≡ true
and_first true b h = refl
and_first false b h = h

-- of two tests that hold together, the second holds
pub and_second : (a b : Bool) → (a && b) ≡ true → b ≡ true
and_second true b h = h
and_second false b h = absurd (cc)

-- a number not below a is a, or comes later
pub here_or_later : (a k : ℕ) → a ≤ k → (a ≡ k) ⊎ (suc a ≤ k)
here_or_later a k h = grind arith

-- a test of the numbers from a holds of each of them
pub each_counted : (test : ℕ → Bool) (a n : ℕ) → list_all test (count_up a n) ≡ true → (k : ℕ) → a ≤ k → k < a + n → test k ≡ true
each_counted test a zero h k low high = absurd (omega arith)
each_counted test a (suc n) h k low high =
    elim (here_or_later a k low) [
      | inl e ↦ subst (λ x. test x ≡ true) e (and_first _ _ h)
      | inr b ↦ each_counted test (suc a) n (and_second _ _ h) k b (omega arith)
    ]

-- a test of all modes holds of each mode
pub each_mode : (p : Protocol) (test : ℕ → Bool) → list_all test (modes p) ≡ true → (m : ℕ) → IsMode p m → test m ≡ true
each_mode p test h m is = each_counted test 1 p.count h m is.some (let r = is.in_range in omega arith)

-- a test of none and all modes holds of each of them
pub each_mode_or_none : (p : Protocol) (test : ℕ → Bool) → list_all test (modes_or_none p) ≡ true → (m : ℕ) → m ≤ p.count → test m ≡ true
each_mode_or_none p test h m is = each_counted test 0 (suc p.count) h m (omega arith) (omega arith)

-- the laws of a protocol as a test --

-- whether a number is a mode
abbrev pub is_mode : Protocol → ℕ → Bool
is_mode p m = nat_lt 0 m && nat_le m p.count

-- whether what is requested, if anything, is a mode
abbrev pub asks_mode : Protocol → Option (ℕ × Span) → Bool
asks_mode p None = true
asks_mode p (Some (q, s)) = is_mode p q

-- whether two spans are the same
abbrev pub same_span : Span → Span → Bool
same_span Instant Instant = true
same_span Commit Commit = true
same_span Instant Commit = false
same_span Commit Instant = false

-- whether two answers of `ask` are the same
abbrev pub same_ask : Option (ℕ × Span) → Option (ℕ × Span) → Bool
same_ask None None = true
same_ask (Some (q, s)) (Some (r, t)) = (q == r) && same_span s t
same_ask None (Some b) = false
same_ask (Some a) None = false

-- whether all tests hold
abbrev pub all_true : List Bool → Bool
all_true bs = list_all (λ b. b) bs

-- of tests that all hold, the one at place i
pub test_at : (bs : List Bool) → all_true bs ≡ true → (i : ℕ) → slice_index_or bs i true ≡ true
test_at [] h zero = refl
test_at [] h (suc i) = refl
test_at (b ∷ bs) h zero = and_first b (all_true bs) h
test_at (b ∷ bs) h (suc i) = test_at bs (and_second b (all_true bs) h) i

-- the rows that move no key
abbrev pub keeping_rows : List Row
keeping_rows = FetchHit ∷ FetchMiss ∷ ScanKey ∷ ScanStop ∷ Update ∷ []

-- all rows
abbrev pub all_rows : List Row
all_rows = FetchHit ∷ FetchMiss ∷ ScanKey ∷ ScanStop ∷ Insert ∷ Delete ∷ Update ∷ []

-- both sides
abbrev pub both_sides : List Side
both_sides = Current ∷ Next ∷ []

-- the laws of a protocol, each as a test over all modes, rows and sides
abbrev pub law_tests : Protocol → List Bool
law_tests p =
    nat_le p.count 15
    ∷ list_all (λ q. p.ok q 0) (modes_or_none p)
    ∷ list_all (λ h. p.ok 0 h) (modes_or_none p)
    ∷ list_all (λ q. p.convert 0 q == q) (modes_or_none p)
    ∷ list_all (λ h. p.convert h 0 == h) (modes_or_none p)
    ∷ list_all (λ h. list_all (λ q. is_mode p (p.convert h q)) (modes p)) (modes p)
    ∷ all_true (map (λ r. all_true (map (λ s. list_all (λ o. asks_mode p (p.ask r s o)) (modes_or_none p)) both_sides)) all_rows)
    ∷ all_true (map (λ r. all_true (map (λ s. list_all (λ o. same_ask (p.ask r s o) (p.ask r s 0)) (modes_or_none p)) both_sides)) keeping_rows)
    ∷ all_true (map (λ s. list_all (λ o. p.updates || same_ask (p.ask Update s o) None) (modes_or_none p)) both_sides)
    ∷ []

-- whether all laws hold
abbrev pub is_lawful : Protocol → Bool
is_lawful p = all_true (law_tests p)

at_row : (t : Row → Bool) (r : Row) → all_true (map t all_rows) ≡ true → t r ≡ true
at_row t FetchHit h = test_at (map t all_rows) h 0
at_row t FetchMiss h = test_at (map t all_rows) h 1
at_row t ScanKey h = test_at (map t all_rows) h 2
at_row t ScanStop h = test_at (map t all_rows) h 3
at_row t Insert h = test_at (map t all_rows) h 4
at_row t Delete h = test_at (map t all_rows) h 5
at_row t Update h = test_at (map t all_rows) h 6

at_side : (t : Side → Bool) (s : Side) → all_true (map t both_sides) ≡ true → t s ≡ true
at_side t Current h = test_at (map t both_sides) h 0
at_side t Next h = test_at (map t both_sides) h 1

at_keeping : (t : Row → Bool) (r : Row) → MovesNoKey r → all_true (map t keeping_rows) ≡ true → t r ≡ true
at_keeping t FetchHit is h = test_at (map t keeping_rows) h 0
at_keeping t FetchMiss is h = test_at (map t keeping_rows) h 1
at_keeping t ScanKey is h = test_at (map t keeping_rows) h 2
at_keeping t ScanStop is h = test_at (map t keeping_rows) h 3
at_keeping t Insert is h = absurd is
at_keeping t Delete is h = absurd is
at_keeping t Update is h = test_at (map t keeping_rows) h 4

span_of_test : (s t : Span) → same_span s t ≡ true → s ≡ t
span_of_test Instant Instant h = refl
span_of_test Commit Commit h = refl
span_of_test Instant Commit h = absurd (cc)
span_of_test Commit Instant h = absurd (cc)

-- numbers that are the same by the test are equal
pub eq_of_test : (a b : ℕ) → (a == b) ≡ true → a ≡ b
eq_of_test a b h = grind (arith, nat_tests)

same_some : (q r : ℕ) (s t : Span) → q ≡ r → s ≡ t → ◌≡◌ {A = Option (ℕ × Span)} (Some (q, s)) (Some (r, t))
same_some q r s t e f = cc

ask_of_test : (a b : Option (ℕ × Span)) → same_ask a b ≡ true → a ≡ b
ask_of_test None None h = refl
ask_of_test (Some (q, s)) (Some (r, t)) h = same_some q r s t (eq_of_test q r (and_first _ _ h)) (span_of_test s t (and_second _ _ h))
ask_of_test None (Some b) h = absurd (cc)
ask_of_test (Some a) None h = absurd (cc)

mode_of_test : (p : Protocol) (m : ℕ) → is_mode p m ≡ true → IsMode p m
mode_of_test p m h =
    let a = and_first (nat_lt 0 m) (nat_le m p.count) h in
    let b = and_second (nat_lt 0 m) (nat_le m p.count) h in
    record { some = grind (arith, nat_tests); in_range = grind (arith, nat_tests) }

asked_mode : (p : Protocol) (a : Option (ℕ × Span)) (q : ℕ) (s : Span) → asks_mode p a ≡ true → a ≡ Some (q, s) → IsMode p q
asked_mode p a q s h e = mode_of_test p q (subst (λ x. asks_mode p x ≡ true) e h)

-- a number that is at most another by the test is so
pub le_of_test : (a b : ℕ) → nat_le a b ≡ true → a ≤ b
le_of_test a b h = grind (arith, nat_tests)

or_other : (a b : Bool) → a ≡ false → (a || b) ≡ true → b ≡ true
or_other true b e h = absurd (cc)
or_other false b e h = h

-- a protocol that passes the tests keeps the laws
pub lawful_by_test : (p : Protocol) → is_lawful p ≡ true → IsLawful p
lawful_by_test p h =
    record {
      few = le_of_test p.count 15 (test_at (law_tests p) h 0);
      ok-none_held = each_mode_or_none p (λ q. p.ok q 0) (test_at (law_tests p) h 1);
      ok-none_asked = each_mode_or_none p (λ x. p.ok 0 x) (test_at (law_tests p) h 2);
      convert-none_held = λ q r. eq_of_test (p.convert 0 q) q (each_mode_or_none p (λ x. p.convert 0 x == x) (test_at (law_tests p) h 3) q r);
      convert-none_asked = λ q r. eq_of_test (p.convert q 0) q (each_mode_or_none p (λ x. p.convert x 0 == x) (test_at (law_tests p) h 4) q r);
      convert-modes = λ x q ix iq. mode_of_test p (p.convert x q) (each_mode p (λ z. is_mode p (p.convert x z)) (each_mode p (λ y. list_all (λ z. is_mode p (p.convert y z)) (modes p)) (test_at (law_tests p) h 5) x ix) q iq);
      ask-mode = λ r s o q span io e. asked_mode p (p.ask r s o) q span
          (each_mode_or_none p (λ x. asks_mode p (p.ask r s x))
          (at_side (λ y. list_all (λ x. asks_mode p (p.ask r y x)) (modes_or_none p)) s
          (at_row (λ z. all_true (map (λ y. list_all (λ x. asks_mode p (p.ask z y x)) (modes_or_none p)) both_sides)) r (test_at (law_tests p) h 6))) o io) e;
      ask-no_move = λ r s o is io. ask_of_test (p.ask r s o) (p.ask r s 0)
          (each_mode_or_none p (λ x. same_ask (p.ask r s x) (p.ask r s 0))
          (at_side (λ y. list_all (λ x. same_ask (p.ask r y x) (p.ask r y 0)) (modes_or_none p)) s
          (at_keeping (λ z. all_true (map (λ y. list_all (λ x. same_ask (p.ask z y x) (p.ask z y 0)) (modes_or_none p)) both_sides)) r is (test_at (law_tests p) h 7))) o io);
      ask-no_update = λ s o none io. ask_of_test (p.ask Update s o) None (or_other p.updates (same_ask (p.ask Update s o) None) none
          (each_mode_or_none p (λ x. p.updates || same_ask (p.ask Update s x) None)
          (at_side (λ y. list_all (λ x. p.updates || same_ask (p.ask Update y x) None) (modes_or_none p)) s (test_at (law_tests p) h 8)) o io));
    }

-- Two tables that agree at each pair of entries below n --

-- whether two tables of tests agree at each pair of numbers below n
abbrev pub same_tests : (ℕ → ℕ → Bool) → (ℕ → ℕ → Bool) → ℕ → Bool
same_tests f g n = list_all (λ a. list_all (λ b. beq (f a b) (g a b)) (count_up 0 n)) (count_up 0 n)

beq_is : (a b : Bool) → beq a b ≡ true → a ≡ b
beq_is true true h = refl
beq_is false false h = refl
beq_is true false h = absurd (cc)
beq_is false true h = absurd (cc)

-- tables of tests that agree by computation agree at each pair below n
pub tests_agree : (f g : ℕ → ℕ → Bool) (n : ℕ) → same_tests f g n ≡ true → (a b : ℕ) → a < n → b < n → f a b ≡ g a b
tests_agree f g n h a b ia ib =
    beq_is (f a b) (g a b) (each_counted (λ y. beq (f a y) (g a y)) 0 n (each_counted (λ x. list_all (λ y. beq (f x y) (g x y)) (count_up 0 n)) 0 n h a (omega arith) (omega arith)) b (omega arith) (omega arith))

-- whether two tables of numbers agree at each pair of numbers below n
abbrev pub same_numbers : (ℕ → ℕ → ℕ) → (ℕ → ℕ → ℕ) → ℕ → Bool
same_numbers f g n = list_all (λ a. list_all (λ b. f a b == g a b) (count_up 0 n)) (count_up 0 n)

-- tables of numbers that agree by computation agree at each pair below n
pub numbers_agree : (f g : ℕ → ℕ → ℕ) (n : ℕ) → same_numbers f g n ≡ true → (a b : ℕ) → a < n → b < n → f a b ≡ g a b
numbers_agree f g n h a b ia ib =
    eq_of_test (f a b) (g a b) (each_counted (λ y. f a y == g a y) 0 n (each_counted (λ x. list_all (λ y. f x y == g x y) (count_up 0 n)) 0 n h a (omega arith) (omega arith)) b (omega arith) (omega arith))
