use Rattle.std.proofs.Common.{All, subst, sym}
use Rattle.std.proofs.lemmas.List.Elements.{All-push}
use Rattle.kr_ghost_follow.specs.Stands.{IsStanding}
use Rattle.kr_ghost_follow.proofs.spread.add.Goals as goal

pub returns : goal.returns
returns g c q opening lines h one =
    let Stands = IsStanding g.P.GhostProtocol.ghosts q opening lines in
    subst (λ xs. All Stands xs) (sym c.in_ok-push.ensures.items) (All-push Stands c.args.stands.now.items c.args.stand h one)
