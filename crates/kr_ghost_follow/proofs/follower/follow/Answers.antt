use Rattle.std.proofs.Common.{[], ◌∷◌, ◌++◌, subst, sym, ◌∙◌}
use Rattle.kr_ghost_follow.specs.Stands.{AreFollowed}
use Rattle.kr_ghost_follow.specs.Tries.{line_of}
use Rattle.kr_ghost_follow.proofs.Standing.{followed_on, none_found}
use Rattle.kr_ghost_follow.proofs.follower.follow.Goals as goal

pub returns-then-is_some-clause-followed : goal.returns-then-is_some-clause-followed
returns-then-is_some-clause-followed g c q opening lines h =
    followed_on g.P.GhostProtocol.ghosts q opening lines (line_of c.args.line ∷ []) c.args.first.now c.args.others.now.items c.args.queued.now c.args.found.now (sym c.is_some.ensures ∙ c.if-is_some.true) h

pub returns-clause-followed : goal.returns-clause-followed
returns-clause-followed g c q opening lines h =
    let ghosts = g.P.GhostProtocol.ghosts in
    let l = line_of c.args.line in
    let was = none_found ghosts q opening lines c.args.first.now c.args.others.now.items c.args.queued.now c.args.found.now (sym c.is_some.ensures ∙ c.if-is_some.false) h in
    let more = c.in_ok-is_cut.ensures q opening lines was.0 was.1 in
    let left = c.in_ok-standing.ensures q opening lines more in
    subst (λ n. AreFollowed ghosts q opening (lines ++ l ∷ []) c.stand_on.new.first c.stand_on.new.left.items n c.stand_on.result) (sym c.queued.ensures)
    (c.stand_on.ensures q opening lines (c.in_ok-kind.ensures q opening lines was.0) left)
