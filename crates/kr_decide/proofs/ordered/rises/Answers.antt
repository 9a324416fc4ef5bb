use Rattle.std.proofs.Common.{IsTrue, below_more, rules}
use Rattle.kr_decide.specs.Rising.{RisesFrom}
use Rattle.kr_decide.proofs.ordered.rises.Goals as goal

pub loop-lesser-preserved : goal.loop-lesser-preserved
loop-lesser-preserved g c =
    let is : IsTrue c.rises_from.result = search rules in
    below_more (RisesFrom (g.P.Protocol.table c.args.protocol.now) c.args.row c.args.side) c.loop-lesser.lesser c.loop-lesser.invariant (c.rises_from.ensures.0 is)
