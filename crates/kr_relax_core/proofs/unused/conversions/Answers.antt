use Rattle.std.proofs.Common.{◌+◌, ◌-◌, arith}
use Rattle.kr_model.specs.Covers.{count_up}
use Rattle.kr_change.proofs.Listed.{below-more, list_more}
use Rattle.kr_relax_core.specs.Unused.{conversions_from}
use Rattle.kr_relax_core.proofs.unused.conversions.Goals as goal

-- the conversions of one more
pub loop-held-preserved : goal.loop-held-preserved
loop-held-preserved g c =
    let p = g.P.Protocol.table c.args.protocol.now in
    let h = c.loop-held.held in
    list_more (conversions_from p) c.args.entries.now.items c.loop-held.entries.items c.conversions_from.new.entries.items (count_up 1 (h - 1)) (count_up 1 (h + 1 - 1)) h (below-more h (omega arith)) c.loop-held.invariant c.in_ok-conversions_from.ensures
