use Rattle.std.proofs.Common.{ℕ, ◌<◌}
use Rattle.kr_alike.specs.Alone.{state_at}
use Rattle.kr_alike.specs.Deletes.{LetsIn}
use Rattle.kr_alike.proofs.left.lets_in_of.Given as goal

abbrev pub invariant-loop-at : goal.invariant-loop-at
invariant-loop-at g l = (k : ℕ) → k < l.at → LetsIn (g.P.Protocol.table l.protocol) l.mode l.own (state_at l.states.items k) → ⊥
