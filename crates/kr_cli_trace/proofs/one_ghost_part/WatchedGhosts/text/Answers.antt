use Rattle.std.specs.Prelude.{Option, refl}
use Rattle.std.proofs.Common.{◌∙◌, inl, subst, sym}
use Rattle.kr_ghost_follow.specs.Following.{Stand}
use Rattle.kr_ghost_follow.specs.Stands.{points_of}
use Rattle.kr_ghost_follow.proofs.Standing.{followed_points}
use Rattle.kr_trace_lines.specs.declared.deviation.Deviation.{Deviation}
use Rattle.kr_cli_trace.proofs.SerialLaws.{well_where_safe}
use Rattle.kr_cli_trace.proofs.one_ghost_part.WatchedGhosts.text.Goals as goal

pub returns : goal.returns
returns g c s h =
    let ghosts = g.P.GhostProtocol.ghosts in
    let q = c.args.protocol.now in
    let names = g.P.Protocol.names q in
    let f = c.args.self.follower in
    let found = c.args.self.found in
    let points = points_of f.found f.first f.others in
    let stands : Stand (ghosts q) s.opening s.steps points f.queued found =
    subst (λ (d : Option Deviation). Stand (ghosts q) s.opening s.steps points f.queued d) (sym h.deviates) (followed_points ghosts q s.opening s.steps f.first f.others f.queued f.found h.followed) in
    let shown = c.in_ok-text.ensures s (c.as_slice.ensures ∙ h.opens) h.keeps in
    inl (refl, (points, f.queued, found, c.cut.result, _, stands, shown, c.in_ok-text-2.ensures, well_where_safe (ghosts q) s h.rising points f.queued found stands shown.0 shown.1.0 _ shown.1.1.1))
