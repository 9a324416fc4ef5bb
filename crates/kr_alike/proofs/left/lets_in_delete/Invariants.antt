use Rattle.std.proofs.Common.{ℕ, ◌<◌}
use Rattle.kr_alike.specs.Alone.{state_at}
use Rattle.kr_alike.specs.Deletes.{LetsInOf}
use Rattle.kr_alike.proofs.left.lets_in_delete.Given as goal

abbrev pub invariant-loop-at : goal.invariant-loop-at
invariant-loop-at g l = (k : ℕ) → k < l.at → LetsInOf (g.P.Protocol.table l.protocol) l.mode (state_at l.states.items k) → ⊥
