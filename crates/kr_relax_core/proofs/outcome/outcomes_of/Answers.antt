use Rattle.kr_relax_core.proofs.Judging.{judged_changes, judged_right}
use Rattle.kr_relax_core.proofs.outcome.outcomes_of.Goals as goal

-- one change more is judged
pub loop-at-preserved : goal.loop-at-preserved
loop-at-preserved g c =
    let p = g.P.IndexProtocol.index c.args.protocol.now in
    let changes = c.args.changes.now in
    let old = c.loop-at.list.items in
    let new = c.push.new.self.items in
    record {
      changes = judged_changes changes old new c.loop-at.at _ _ c.loop-at-test.true c.in_ok-push.ensures.items c.loop-at.invariant.changes;
      right = judged_right p changes old new c.loop-at.at _ _ c.in_ok-push.ensures.items c.in_ok-outcome.ensures c.loop-at.invariant.right;
    }
