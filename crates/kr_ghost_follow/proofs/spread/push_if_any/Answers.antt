use Rattle.std.proofs.Common.{All, IfSome, subst, sym}
use Rattle.std.proofs.lemmas.List.Elements.{All-push}
use Rattle.kr_ghost_follow.specs.Stands.{IsStanding}
use Rattle.kr_ghost_follow.proofs.spread.push_if_any.Goals as goal

pub returns-in_ok-push : goal.returns-in_ok-push
returns-in_ok-push g c q opening lines h one =
    let Stands = IsStanding g.P.GhostProtocol.ghosts q opening lines in
    subst (λ xs. All Stands xs) (sym c.in_ok-push.ensures.items) (All-push Stands c.args.list.now.items c.in-Some.stand h (subst (λ o. IfSome o Stands) c.in-Some.is one))
