use Rattle.std.proofs.Common.{◌≡◌, ◌-◌}
use Rattle.kr_model.specs.Map.{at}
use Rattle.kr_index.specs.Slots.{pairs_of}
use Rattle.kr_index.specs.Stretches.{IsIn}
use Rattle.kr_index.proofs.walks.first_from_home.Given as goal

-- no key before `next` has a value, and `next` is in the stretch before the place
abbrev pub invariant-loop-place : goal.invariant-loop-place
invariant-loop-place l = record { same : at (pairs_of l.slots.entries) l.next ≡ at (pairs_of l.slots.entries) l.from; home : IsIn l.stretches l.next (l.place - 1) }
