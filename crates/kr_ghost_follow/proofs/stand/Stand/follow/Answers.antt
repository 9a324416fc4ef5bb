use Rattle.kr_ghost_follow.specs.Tries.{line_of}
use Rattle.kr_ghost_follow.proofs.Standing.{took_ok}
use Rattle.kr_ghost_follow.proofs.stand.Stand.follow.Goals as goal

pub returns : goal.returns
returns g c q opening lines h =
    took_ok g.P.GhostProtocol.ghosts q opening lines (line_of c.args.line) c.args.self.now c.take.new.self c.take.result c.take.ensures.protocol c.take.ensures.point c.take.ensures.kind h
