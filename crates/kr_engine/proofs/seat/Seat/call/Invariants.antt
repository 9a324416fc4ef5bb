use Rattle.std.proofs.Common.{◌≡◌}
use mathlib.Core.List.{IsPrefix}
use Rattle.kr_engine.proofs.seat.Seat.call.Given as goal

-- the seat has at most seen more
abbrev pub invariant-loop : goal.invariant-loop
invariant-loop g l = record {
  can : (goal.iterator-loop g).can_next l.iterator';
  ends : (goal.iterator-loop g).is_finite l.iterator';
  others : l.seat ≡ record l.initial.seat { view = l.seat.view };
  begins : IsPrefix l.initial.seat.view l.seat.view;
}
