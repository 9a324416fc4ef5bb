use Rattle.kr_ghost_follow.proofs.Standing.{purged_ok}
use Rattle.kr_ghost_follow.proofs.stand.Stand.purged.Goals as goal

pub returns : goal.returns
returns g c q opening lines h = purged_ok g.P.GhostProtocol.ghosts q opening lines c.args.key c.args.self.now c.purge.result c.purge.ensures.protocol c.purge.ensures.point h
