use Rattle.std.proofs.Common.{ℕ, ◌<◌, ◌≡◌}
use Rattle.kr_alike.specs.Alone.{state_at}
use Rattle.kr_alike.specs.Asked.{AsksAbove}
use Rattle.kr_alike.proofs.asked.is_asked.Given as goal

abbrev pub invariant-loop-at : goal.invariant-loop-at
invariant-loop-at g l = (k : ℕ) → k < l.at → ((state_at l.states.items k).mode ≡ l.own) × AsksAbove (g.P.Protocol.table l.protocol) l.row l.side (state_at l.states.items k) l.next → ⊥
