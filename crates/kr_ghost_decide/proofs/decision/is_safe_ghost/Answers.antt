use Rattle.kr_ghost_decide.proofs.Holed.{told}
use Rattle.kr_ghost_decide.proofs.decision.is_safe_ghost.Goals as goal

pub returns : goal.returns
returns g c = told (g.P.GhostProtocol.ghosts c.args.protocol.now) c.in_ok-hole.hole c.is_none.result c.in_ok-hole.ensures c.is_none.ensures
