use Rattle.std.proofs.Common.{ℕ, ◌<◌}
use Rattle.kr_decide.specs.Absent.{LetsDeleteOf}
use Rattle.kr_decide.proofs.absent.lets_delete.Given as goal

abbrev pub invariant-loop-own : goal.invariant-loop-own
invariant-loop-own g l = (o : ℕ) → o < l.own → LetsDeleteOf (g.P.Protocol.table l.protocol) l.mode o → ⊥
