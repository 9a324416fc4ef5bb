use Rattle.std.proofs.Common.{ℕ, ◌<◌}
use Rattle.kr_decide.specs.Rising.{GoesUpFrom}
use Rattle.kr_decide.proofs.ordered.all_go_up.Given as goal

abbrev pub invariant-loop-held : goal.invariant-loop-held
invariant-loop-held g l = (h : ℕ) → h < l.held → GoesUpFrom (g.P.Protocol.table l.protocol) h
