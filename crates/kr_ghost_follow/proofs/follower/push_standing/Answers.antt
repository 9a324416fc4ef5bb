use Rattle.std.proofs.Common.{[], ◌∷◌, ◌++◌, All, subst, sym, ◌∙◌}
use Rattle.std.proofs.lemmas.List.Elements.{All-push}
use Rattle.kr_ghost_follow.specs.Stands.{IsStanding}
use Rattle.kr_ghost_follow.specs.Tries.{line_of}
use Rattle.kr_ghost_follow.proofs.Standing.{took_none}
use Rattle.kr_ghost_follow.proofs.follower.push_standing.Goals as goal

pub returns : goal.returns
returns g c q opening lines h one =
    let ghosts = g.P.GhostProtocol.ghosts in
    let l = line_of c.args.line in
    let Stands = IsStanding ghosts q opening (lines ++ l ∷ []) in
    subst (λ xs. All Stands xs) (sym c.in_ok-push.ensures.items)
    (All-push Stands c.args.list.now.items c.follow.new.self h (took_none ghosts q opening lines l c.follow.new.self c.in_ok-kind.kind (sym c.is_some.ensures ∙ c.if-is_some.false) (c.in_ok-kind.ensures q opening lines one)))
