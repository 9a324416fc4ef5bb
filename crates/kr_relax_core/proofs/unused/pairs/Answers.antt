use Rattle.std.proofs.Common.{◌+◌, ◌-◌, arith}
use Rattle.kr_model.specs.Covers.{count_up}
use Rattle.kr_change.proofs.Listed.{below-more, list_more}
use Rattle.kr_relax_core.specs.Unused.{pairs_with}
use Rattle.kr_relax_core.proofs.unused.pairs.Goals as goal

-- the pairs of one more
pub loop-requested-preserved : goal.loop-requested-preserved
loop-requested-preserved g c =
    let p = g.P.Protocol.table c.args.protocol.now in
    let q = c.loop-requested.requested in
    list_more (pairs_with p) c.args.entries.now.items c.loop-requested.entries.items c.pairs_with.new.entries.items (count_up 1 (q - 1)) (count_up 1 (q + 1 - 1)) q (below-more q (omega arith)) c.loop-requested.invariant c.in_ok-pairs_with.ensures
