use Rattle.std.proofs.Common.{sym, ap, subst, All, []}
use Rattle.std.proofs.lemmas.List.Elements.{All-nil}
use Rattle.kr_ghost_follow.specs.Stands.{IsStanding}
use Rattle.kr_ghost_follow.proofs.Standing.{stands_at_start}
use Rattle.kr_ghost_follow.proofs.follower.Follower.new.Goals as goal

pub returns-clause-followed : goal.returns-clause-followed
returns-clause-followed g c =
    let Stands = IsStanding g.P.GhostProtocol.ghosts c.args.protocol.now c.args.opening.now [] in (
      stands_at_start g.P.GhostProtocol.ghosts c.args.protocol.now c.args.opening.now c.in_ok-new.field-0 c.in_ok-new.ensures,
      (subst (λ xs. All Stands xs) (sym c.new-2.ensures.items) (All-nil Stands), ap (λ x. x.point.queued) (sym c.in_ok-new.ensures)),
    )
