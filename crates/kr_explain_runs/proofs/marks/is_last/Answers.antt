use Rattle.kr_explain_runs.proofs.Marking.{next_aside, none_aside}
use Rattle.kr_explain_runs.proofs.marks.is_last.Goals as goal

pub loop-place-init : goal.loop-place-init
loop-place-init g c = none_aside (g.P.Protocol.table c.args.protocol.now) c.args.script.now c.args.name

pub loop-place-preserved : goal.loop-place-preserved
loop-place-preserved g c = next_aside (g.P.Protocol.table c.args.protocol.now) c.args.script.now c.args.name c.loop-place.place c.loop-place.invariant (c.in_ok-is_again.ensures c.if-branch.false)
