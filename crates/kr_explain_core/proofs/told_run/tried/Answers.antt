use Rattle.std.proofs.Common.{◌∙◌, arith}
use Rattle.kr_explain_runs.specs.declared.fit.Fit.TheVariants.{Case}
use Rattle.kr_explain_core.proofs.Trying.{scheduled, tried_next, one_search_more}
use Rattle.kr_explain_core.proofs.told_run.tried.Goals as goal

pub loop-case-preserved : goal.loop-case-preserved
loop-case-preserved g c =
    let p = g.P.Protocol.table c.args.protocol.now in
    let before = c.loop-case.invariant in
    let after = c.in_ok-told.ensures in
    let script = c.in_ok-sought.sought.script in
    record {
      told = tried_next p c.args.cases.now c.loop-case.case-index _ script c.loop-case.told c.in_ok-told.told c.loop-case-test.true before.tried before.unreached before.told (scheduled p _ Case script c.in_ok-sought.ensures.wrong c.in_ok-sought.ensures.marked) after;
      tried = omega (arith, after.tried, before.tried);
      unreached = after.is_reached ∙ before.unreached;
      within = one_search_more c.loop-case.told.tried c.in_ok-told.told.tried c.states-states.result _ c.loop-case.left.states c.after-left.result.states c.args.effort.states c.states-states.ensures after.tried c.in-Some.ensures c.after-left.ensures before.within;
    }
