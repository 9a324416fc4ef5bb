use Rattle.std.proofs.Common.{◌+◌, ◌-◌, arith}
use Rattle.kr_model.specs.Covers.{count_up}
use Rattle.kr_change.specs.Every.{conversions_of}
use Rattle.kr_change.proofs.Listed.{below-more, list_more}
use Rattle.kr_change.proofs.every.conversions.Goals as goal

-- the changes of one more
pub loop-held-preserved : goal.loop-held-preserved
loop-held-preserved g c =
    let p = g.P.Protocol.table c.args.protocol.now in
    list_more (conversions_of p) c.args.changes.now.items c.loop-held.changes.items c.conversions_of.new.changes.items (count_up 1 (c.loop-held.held - 1)) (count_up 1 (c.loop-held.held + 1 - 1)) c.loop-held.held (below-more c.loop-held.held (omega arith)) c.loop-held.invariant c.in_ok-conversions_of.ensures
