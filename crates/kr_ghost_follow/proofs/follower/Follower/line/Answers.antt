use Rattle.std.proofs.Common.{subst, sym}
use Rattle.kr_ghost_follow.specs.Stands.{HasFollowed}
use Rattle.kr_ghost_follow.proofs.follower.Follower.line.Goals as goal

pub returns-clause-followed : goal.returns-clause-followed
returns-clause-followed g c q opening lines h =
    c.in_ok-follow.ensures.followed q opening lines (subst (λ v. HasFollowed g.P.GhostProtocol.ghosts q opening lines v) (sym c.self.view_is) h)
