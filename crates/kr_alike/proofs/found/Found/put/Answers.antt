use Rattle.kr_alike.proofs.Growing.{alone_reached}
use Rattle.kr_alike.proofs.found.Found.put.Goals as goal

pub mark-requires-clause-reached : goal.mark-requires-clause-reached
mark-requires-clause-reached g c =
    alone_reached (g.P.Protocol.table c.args.first.now) (g.Q.Protocol.table c.args.second.now) c.args.coming.now c.args.own c.args.other c.requires.reached
