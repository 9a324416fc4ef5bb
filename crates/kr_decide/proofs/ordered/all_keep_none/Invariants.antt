use Rattle.std.proofs.Common.{ℕ, ◌<◌}
use Rattle.kr_decide.specs.Rising.{KeepsNone}
use Rattle.kr_decide.proofs.ordered.all_keep_none.Given as goal

abbrev pub invariant-loop-own : goal.invariant-loop-own
invariant-loop-own g l = (n : ℕ) → n < l.own → KeepsNone (g.P.Protocol.table l.protocol) n
