-- From tests that are computed over a whole table to what makes a protocol ordered.
use Rattle.std.proofs.Common.{◌≡◌, ℕ, zero, suc, ◌+◌, ◌≤◌, ◌<◌, refl, arith, subst, Bool, true, false}
use Rattle.std.specs.Prelude.{not, ◌||◌, ◌&&◌, Option, Some, None}
use Rattle.std.specs.List.{list_all}
use Rattle.kr_model.specs.declared.Row.{Row}
use Rattle.kr_model.specs.declared.Row.TheVariants.{Insert, Delete}
use Rattle.kr_model.specs.declared.Side.{Side}
use Rattle.kr_model.specs.declared.Side.TheVariants.{Current, Next}
use Rattle.kr_model.specs.declared.Span.{Span}
use Rattle.kr_model.specs.declared.Span.TheVariants.{Instant, Commit}
use Rattle.kr_model.specs.Covers.{count_up, modes_or_none}
use Rattle.kr_model.specs.Protocol.{Protocol, IsLawful}
use Rattle.kr_model.proofs.Tested.{and_first, and_second, each_mode_or_none}
use Rattle.kr_theorem.specs.Ordered.{IsAtLeast, AsksAtLeast, IsOrdered}
use Rattle.kr_theorem.proofs.Order.{Rises, ordered_by_moves}

-- Whether the second of two tests holds where the first does.
abbrev entails : Bool → Bool → Bool
entails a b = not a || b

entailed : (a b : Bool) → entails a b ≡ true → a ≡ true → b ≡ true
entailed true b e h = e
entailed false b e h = absurd (cc)

entailing : (a b : Bool) → (a ≡ true → b ≡ true) → entails a b ≡ true
entailing true b h = h refl
entailing false b h = refl

both : (a b : Bool) → a ≡ true → b ≡ true → (a && b) ≡ true
both true b e h = h
both false b e h = absurd (cc)

-- a test that holds of each number from a holds of all
all_counted : (test : ℕ → Bool) (a n : ℕ) → ((k : ℕ) → k < a + n → test k ≡ true) → list_all test (count_up a n) ≡ true
all_counted test a zero h = refl
all_counted test a (suc n) h = both (test a) (list_all test (count_up (suc a) n)) (h a (omega arith)) (all_counted test (suc a) n (λ k lt. h k (omega arith)))

-- Whether mode n is at least mode m.
abbrev at_least : Protocol → ℕ → ℕ → Bool
at_least p n m = list_all (λ h. entails (p.ok n h) (p.ok m h) && entails (p.ok h n) (p.ok h m)) (modes_or_none p)

at_least_of_test : (p : Protocol) (n m : ℕ) → at_least p n m ≡ true → IsAtLeast p n m
at_least_of_test p n m e = record {
  requested = λ h le. entailed (p.ok n h) (p.ok m h) (and_first (entails (p.ok n h) (p.ok m h)) (entails (p.ok h n) (p.ok h m)) (at h le));
  held = λ h le. entailed (p.ok h n) (p.ok h m) (and_second (entails (p.ok n h) (p.ok m h)) (entails (p.ok h n) (p.ok h m)) (at h le));
}
  where
    at : (h : ℕ) → h ≤ p.count → (entails (p.ok n h) (p.ok m h) && entails (p.ok h n) (p.ok h m)) ≡ true
    at = each_mode_or_none p (λ h. entails (p.ok n h) (p.ok m h) && entails (p.ok h n) (p.ok h m)) e

test_of_at_least : (p : Protocol) (n m : ℕ) → IsAtLeast p n m → at_least p n m ≡ true
test_of_at_least p n m least = all_counted (λ h. entails (p.ok n h) (p.ok m h) && entails (p.ok h n) (p.ok h m)) 0 (suc p.count)
    (λ h lt. both (entails (p.ok n h) (p.ok m h)) (entails (p.ok h n) (p.ok h m)) (entailing (p.ok n h) (p.ok m h) (least.requested h (omega arith))) (entailing (p.ok h n) (p.ok h m) (least.held h (omega arith))))

-- Whether the first span is to commit where the second is.
abbrev kept_where : Span → Span → Bool
kept_where Commit of_m = true
kept_where Instant Instant = true
kept_where Instant Commit = false

kept_of_test : (of_n of_m : Span) → kept_where of_n of_m ≡ true → of_m ≡ Commit → of_n ≡ Commit
kept_of_test Commit of_m e is = refl
kept_of_test Instant Instant e is = is
kept_of_test Instant Commit e is = absurd (cc)

-- Whether the first request is at least the second.
abbrev asks_at_least : Protocol → Option (ℕ × Span) → Option (ℕ × Span) → Bool
asks_at_least p a None = true
asks_at_least p None (Some b) = false
asks_at_least p (Some (n, of_n)) (Some (m, of_m)) = at_least p n m && kept_where of_n of_m

asks_of_test : (p : Protocol) (a b : Option (ℕ × Span)) → asks_at_least p a b ≡ true → AsksAtLeast p a b
asks_of_test p a None e = tt
asks_of_test p None (Some (m, of_m)) e = absurd (cc)
asks_of_test p (Some (n, of_n)) (Some (m, of_m)) e = (at_least_of_test p n m (and_first (at_least p n m) (kept_where of_n of_m) e), kept_of_test of_n of_m (and_second (at_least p n m) (kept_where of_n of_m) e))

-- Whether what is requested rises with the own mode.
abbrev rises : Protocol → Row → Side → Bool
rises p r s = list_all (λ m. list_all (λ n. entails (at_least p n m) (asks_at_least p (p.ask r s n) (p.ask r s m))) (modes_or_none p)) (modes_or_none p)

rises_of_test : (p : Protocol) (r : Row) (s : Side) → rises p r s ≡ true → (m n : ℕ) → m ≤ p.count → n ≤ p.count → IsAtLeast p n m → AsksAtLeast p (p.ask r s n) (p.ask r s m)
rises_of_test p r s e m n mm nn least =
    let of_m = each_mode_or_none p (λ x. list_all (λ y. entails (at_least p y x) (asks_at_least p (p.ask r s y) (p.ask r s x))) (modes_or_none p)) e m mm in
    let of_n = each_mode_or_none p (λ y. entails (at_least p y m) (asks_at_least p (p.ask r s y) (p.ask r s m))) of_m n nn in
    asks_of_test p (p.ask r s n) (p.ask r s m) (entailed (at_least p n m) (asks_at_least p (p.ask r s n) (p.ask r s m)) of_n (test_of_at_least p n m least))

-- Whether nothing is requested, or for an instant.
abbrev keeps_nothing : Option (ℕ × Span) → Bool
keeps_nothing None = true
keeps_nothing (Some (q, Instant)) = true
keeps_nothing (Some (q, Commit)) = false

instant_of_test : (a : Option (ℕ × Span)) (q : ℕ) (span : Span) → keeps_nothing a ≡ true → a ≡ Some (q, span) → span ≡ Instant
instant_of_test a q Instant e is = refl
instant_of_test a q Commit e is = let f = subst (λ x. keeps_nothing x ≡ true) is e in absurd (cc)

-- Whether converting goes up.
abbrev goes_up : Protocol → ℕ → ℕ → Bool
goes_up p h q = at_least p (p.convert h q) h && at_least p (p.convert h q) q

-- Whether it does from each mode to each.
abbrev all_go_up : Protocol → Bool
all_go_up p = list_all (λ h. list_all (λ q. goes_up p h q) (modes_or_none p)) (modes_or_none p)

-- Whether both requests of a row rise.
abbrev row_rises : Protocol → Row → Bool
row_rises p r = rises p r Current && rises p r Next

-- Whether an insert keeps nothing on the next name.
abbrev keeps_none_next : Protocol → Bool
keeps_none_next p = list_all (λ o. keeps_nothing (p.ask Insert Next o)) (modes_or_none p)

-- Whether a protocol is ordered.
abbrev pub is_ordered : Protocol → Bool
is_ordered p = all_go_up p && (keeps_none_next p && (row_rises p Insert && row_rises p Delete))

-- A lawful protocol that passes is ordered.
pub ordered_by_test : (p : Protocol) → IsLawful p → is_ordered p ≡ true → IsOrdered p
ordered_by_test p laws e = ordered_by_moves p laws up (λ own q span le. instant_of_test (p.ask Insert Next own) q span (each_mode_or_none p (λ o. keeps_nothing (p.ask Insert Next o)) (and_first _ _ (and_second _ _ e)) own le))
    (at_row Insert (and_first (row_rises p Insert) (row_rises p Delete) moving))
    (at_row Delete (and_second (row_rises p Insert) (row_rises p Delete) moving))
  where
    up : (h q : ℕ) → h ≤ p.count → q ≤ p.count → IsAtLeast p (p.convert h q) h × IsAtLeast p (p.convert h q) q
    up h q hh qq =
        let of_h = each_mode_or_none p (λ x. list_all (λ y. goes_up p x y) (modes_or_none p)) (and_first (all_go_up p) (keeps_none_next p && (row_rises p Insert && row_rises p Delete)) e) h hh in
        let of_q = each_mode_or_none p (λ y. goes_up p h y) of_h q qq in
        (at_least_of_test p (p.convert h q) h (and_first (at_least p (p.convert h q) h) (at_least p (p.convert h q) q) of_q), at_least_of_test p (p.convert h q) q (and_second (at_least p (p.convert h q) h) (at_least p (p.convert h q) q) of_q))

    moving : (row_rises p Insert && row_rises p Delete) ≡ true
    moving = and_second (keeps_none_next p) (row_rises p Insert && row_rises p Delete) (and_second (all_go_up p) (keeps_none_next p && (row_rises p Insert && row_rises p Delete)) e)

    at_row : (row : Row) → row_rises p row ≡ true → (side : Side) → Rises p row side
    at_row row is Current = rises_of_test p row Current (and_first (rises p row Current) (rises p row Next) is)
    at_row row is Next = rises_of_test p row Next (and_second (rises p row Current) (rises p row Next) is)
