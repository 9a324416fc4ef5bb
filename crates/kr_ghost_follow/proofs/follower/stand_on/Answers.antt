use Rattle.std.proofs.Common.{[], ◌∷◌, ◌++◌, All, ◌<◌, length, subst, sym, refl, rules}
use Rattle.kr_ghost_follow.specs.Stands.{IsStanding}
use Rattle.kr_ghost_follow.specs.Tries.{line_of}
use Rattle.kr_ghost_follow.proofs.Standing.{removed_first, removed_rest}
use Rattle.kr_ghost_follow.proofs.follower.stand_on.Goals as goal

pub returns-else-is_empty : goal.returns-else-is_empty
returns-else-is_empty g c q opening lines took left =
    let Stands = IsStanding g.P.GhostProtocol.ghosts q opening (lines ++ line_of c.args.line ∷ []) in
    let xs = c.args.left.now.items in
    let some : 0 < length xs = search rules in
    (removed_first Stands xs c.remove.result some c.remove.ensures.value left, (subst (λ ys. All Stands ys) (sym c.remove.ensures.items) (removed_rest Stands xs some left), refl))
