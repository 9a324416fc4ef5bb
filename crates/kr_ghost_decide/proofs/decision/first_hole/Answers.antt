use Rattle.std.proofs.Common.{below_more}
use Rattle.kr_ghost_decide.proofs.Holed.{unmarked, without}
use Rattle.kr_ghost_decide.proofs.decision.first_hole.Goals as goal
use Rattle.kr_ghost_decide.proofs.decision.first_hole.Goals.{in-Some+in_default-hole_of, in_default}

pub loop-place-preserved : goal.loop-place-preserved
loop-place-preserved g c =
    let p = g.P.GhostProtocol.ghosts c.args.protocol.now in
    below_more _ _ c.loop-place.invariant
    (elim c.match-at.branch [ in-Some+in_default-hole_of w ↦ without p _ _ _ c.at.ensures.found w.in-Some.is w.in_default-hole_of.ensures.none | in_default w ↦ unmarked p _ _ c.at.ensures.found w.in_default.is ])
