use Rattle.std.proofs.Common.{ℕ, ◌<◌}
use Rattle.kr_alike.specs.Alone.{state_at}
use Rattle.kr_alike.specs.Asked.{Asks}
use Rattle.kr_alike.proofs.asked.asks_above.Given as goal

abbrev pub invariant-loop-at : goal.invariant-loop-at
invariant-loop-at g l = (k : ℕ) → k < l.at → Asks (g.P.Protocol.table l.protocol) l.asker.row l.asker.side l.asker.own l.asker.next (state_at l.states.items k) → ⊥
