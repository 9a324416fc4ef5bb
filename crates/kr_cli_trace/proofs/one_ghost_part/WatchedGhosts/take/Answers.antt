use Rattle.kr_cli_trace.proofs.OnePartLaws.{step_watched_ghosts}
use Rattle.kr_cli_trace.proofs.one_ghost_part.WatchedGhosts.take.Goals as goal

pub returns : goal.returns
returns g c q s h =
    step_watched_ghosts g.P.GhostProtocol.ghosts q s c.args.number c.args.event c.args.observed c.args.self.now.follower c.line.new.self c.args.self.now.found c.in_ok-self.field-0 c.args.self.now.opening
    c.args.self.now.steps.items c.push.new.self.items h (c.in_ok-self.ensures.followed q s.opening s.steps h.followed) c.in_ok-self.ensures.found c.in_ok-push.ensures.items
