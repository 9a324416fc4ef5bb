-- A set of marks is closed where the test of all codes passes.
use Rattle.std.proofs.Common.{arith, ℕ, ◌<◌, ◌≡◌, refl, Bool, true, false, List, IsTrue}
use Rattle.std.specs.Prelude.{if◌then◌else◌}
use Rattle.std.proofs.lemmas.Bool.{and_parts}
use Rattle.kr_model.specs.declared.Row.{Row}
use Rattle.kr_model.specs.declared.Row.TheVariants as row
use Rattle.kr_model.specs.declared.Side.{Side}
use Rattle.kr_model.specs.declared.Side.TheVariants.{Current, Next}
use Rattle.kr_model.specs.Protocol.{Protocol, IsLawful}
use Rattle.kr_model.proofs.Tested.{le_of_test}
use Rattle.kr_alike.specs.declared.modes.Modes.{Modes}
use Rattle.kr_alike.specs.declared.modes.Ask.{Ask}
use Rattle.kr_alike.specs.declared.coming.Coming.{Coming}
use Rattle.kr_alike.specs.Closed.{none, is_blocked, after, IsClosedFor}
use Rattle.kr_alike.specs.Marks.{comes, is_within, modes_of, has, ask, agreed, is_followed, is_met, IsPairMet, AreMetBeside}
use Rattle.kr_alike.specs.Growth.{Comes}
use Rattle.kr_alike.proofs.Codes.{all_modes, has_within}

module _ (p q : Protocol) (w : Coming) (lawful : IsLawful p) (lawful_too : IsLawful q) (marks : List Bool) (start : IsTrue (has p q marks none none)) (all : (c : ℕ) → c < 256 → AreMetBeside p q w marks (modes_of c)) where
  Has : Modes → Modes → Type 0
  Has x y = IsTrue (has p q marks x y)

  -- What holds of what the set has.
  pair : (x y : Modes) → IsTrue (has p q marks x y) → IsPairMet p q w marks x y
  pair x y h =
      let z = has_within p q marks x y h in
      all_modes p q lawful lawful_too (λ y. IsTrue (has p q marks x y) → IsPairMet p q w marks x y) (all_modes p q lawful lawful_too (AreMetBeside p q w marks) all x z.0) y z.1 h

  met : (r : Row) (s : Side) (x y n : Modes) → IsTrue (has p q marks x y) → IsTrue (has p q marks n none) → IsTrue (is_met p q w marks (ask r s x y n))
  met r s x y n h k = by r s
    where
      i : IsPairMet p q w marks x y
      i = pair x y h

      in_n : IsTrue (is_within p q n)
      in_n = let z = has_within p q marks n none k in z.0

      moves : IsTrue (is_met p q w marks (ask row.Insert Current x y n)) × IsTrue (is_met p q w marks (ask row.Delete Current x y n))
      moves = all_modes p q lawful lawful_too (λ n. IsTrue (has p q marks n none) → IsTrue (is_met p q w marks (ask row.Insert Current x y n)) × IsTrue (is_met p q w marks (ask row.Delete Current x y n))) i.moves n in_n k

      by : (r : Row) (s : Side) → IsTrue (is_met p q w marks (ask r s x y n))
      by row.FetchHit Current = i.plain 0 (omega arith)
      by row.FetchHit Next = i.plain 1 (omega arith)
      by row.FetchMiss Current = i.plain 2 (omega arith)
      by row.FetchMiss Next = i.plain 3 (omega arith)
      by row.ScanKey Current = i.plain 4 (omega arith)
      by row.ScanKey Next = i.plain 5 (omega arith)
      by row.ScanStop Current = i.plain 6 (omega arith)
      by row.ScanStop Next = i.plain 7 (omega arith)
      by row.Update Current = i.plain 8 (omega arith)
      by row.Update Next = i.plain 9 (omega arith)
      by row.Insert Current = moves.0
      by row.Insert Next = i.plain 10 (omega arith)
      by row.Delete Current = moves.1
      by row.Delete Next = i.plain 11 (omega arith)

  -- A request that is met has one answer, and what follows a grant is in the set.
  one_answer : (b c : Bool) (a : Ask) → IsTrue (is_followed p q marks a (agreed b c)) → b ≡ c
  one_answer true true a h = refl
  one_answer true false a h = absurd (cc)
  one_answer false true a h = absurd (cc)
  one_answer false false a h = refl

  followed : (b c : Bool) (a : Ask) → IsTrue (is_followed p q marks a (agreed b c)) → b ≡ false → IsTrue (has p q marks (after p q a.row a.side a.own a.next) a.other)
  followed true c a h e = absurd (cc)
  followed false true a h e = absurd (cc)
  followed false false a h e = h

  -- So it is where it comes.
  came : (r : Row) (s : Side) (x y n : Modes) → Comes w r s x.first n.first y.first → IsTrue (is_met p q w marks (ask r s x y n)) → IsTrue (is_followed p q marks (ask r s x y n) (agreed (is_blocked p r s x.first n.first y.first) (is_blocked q r s x.second n.second y.second)))
  came r s x y n may h = by (comes w r s x.first n.first y.first) may h
    where
      by : (b : Bool) → b ≡ true → IsTrue (if b then is_followed p q marks (ask r s x y n) (agreed (is_blocked p r s x.first n.first y.first) (is_blocked q r s x.second n.second y.second)) else true)
          → IsTrue (is_followed p q marks (ask r s x y n) (agreed (is_blocked p r s x.first n.first y.first) (is_blocked q r s x.second n.second y.second)))
      by true e f = f
      by false e f = absurd (cc)

  pub closed_by_test : IsClosedFor p q (Comes w) (λ x y. IsTrue (has p q marks x y))
  closed_by_test = record {
    within = λ x y h. let z = has_within p q marks x y h in let v = and_parts _ _ z.0 in (le_of_test x.first p.count v.0, le_of_test x.second q.count v.1);
    start = start;
    turn = λ x y h. let i = pair x y h in i.turn;
    leave = λ x y h. let i = pair x y h in i.leave;
    answer = λ r s x y n may h k. one_answer _ _ (ask r s x y n) (came r s x y n may (met r s x y n h k));
    move = λ r s x y n may h k free. followed _ (is_blocked q r s x.second n.second y.second) (ask r s x y n) (came r s x y n may (met r s x y n h k)) free;
  }
