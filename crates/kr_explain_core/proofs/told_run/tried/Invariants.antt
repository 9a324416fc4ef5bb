-- the cases so far were tried, within the effort
use Rattle.std.specs.Prelude.{◌≡◌, ◌≤◌, ◌+◌, ◌*◌, false, vec_len}
use Rattle.kr_explain_core.specs.Telling.{AreToldOf}
use Rattle.kr_explain_core.proofs.told_run.tried.Given as goal

abbrev pub invariant-loop-case : goal.invariant-loop-case
invariant-loop-case g l = record {
  told : AreToldOf (g.P.Protocol.table l.protocol) l.cases l.told;
  tried : l.told.tried ≡ l.case-index;
  unreached : l.told.is_reached ≡ false;
  within : l.told.tried * vec_len l.closure.reached + l.left.states ≤ l.fn.effort.states;
}
