use Rattle.std.proofs.Common.{◌+◌, ◌-◌, arith}
use Rattle.kr_model.specs.Covers.{count_up}
use Rattle.kr_change.specs.Every.{compatibles_of}
use Rattle.kr_change.proofs.Listed.{below-more, list_more}
use Rattle.kr_change.proofs.every.compatibles.Goals as goal

-- the changes of one more
pub loop-requested-preserved : goal.loop-requested-preserved
loop-requested-preserved g c =
    let p = g.P.Protocol.table c.args.protocol.now in
    list_more (compatibles_of p) c.args.changes.now.items c.loop-requested.changes.items c.compatibles_of.new.changes.items (count_up 1 (c.loop-requested.requested - 1)) (count_up 1 (c.loop-requested.requested + 1 - 1)) c.loop-requested.requested (below-more c.loop-requested.requested (omega arith)) c.loop-requested.invariant c.in_ok-compatibles_of.ensures
