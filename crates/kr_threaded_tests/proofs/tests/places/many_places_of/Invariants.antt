use Rattle.std.proofs.Common.{◌≡◌, ◌≤◌, length}
use Rattle.kr_threaded_tests.proofs.tests.places.many_places_of.Given as goal

-- one more is known of after each turn, and the seat knows no more
abbrev pub invariant-loop-place : goal.invariant-loop-place
invariant-loop-place g l = record {
  known : length l.seen ≡ l.place;
  learnt : length l.seat ≤ length l.seen;
}
