use Rattle.std.proofs.Common.{ℕ, ◌<◌}
use Rattle.kr_decide.specs.Rising.{RisesTo}
use Rattle.kr_decide.proofs.ordered.rises_from.Given as goal

abbrev pub invariant-loop-own : goal.invariant-loop-own
invariant-loop-own g l = (n : ℕ) → n < l.own → RisesTo (g.P.Protocol.table l.protocol) l.row l.side l.lesser n
