use Rattle.std.proofs.Common.{All, ◌<◌, length, subst, sym, ap, rules}
use Rattle.kr_ghost_follow.specs.Stands.{IsStanding}
use Rattle.kr_ghost_follow.proofs.Standing.{removed_first, removed_rest}
use Rattle.kr_ghost_follow.proofs.follower.standing.Goals as goal

pub loop-alloc-preserved : goal.loop-alloc-preserved
loop-alloc-preserved g c q opening lines h =
    let Stands = IsStanding g.P.GhostProtocol.ghosts q opening lines in
    let at = c.loop-alloc.invariant q opening lines h in
    let some : 0 < length c.loop-alloc.stands.items = search rules in (
      c.in_ok-push_standing.ensures q opening lines at.0 (removed_first Stands c.loop-alloc.stands.items c.remove-stand.result some c.remove-stand.ensures.value at.1),
      subst (λ xs. All Stands xs) (sym c.remove-stand.ensures.items) (removed_rest Stands c.loop-alloc.stands.items some at.1),
    )

pub returns : goal.returns
returns g c q opening lines h =
    let Stands = IsStanding g.P.GhostProtocol.ghosts q opening lines in
    (c.loop-alloc.invariant q opening lines (subst (λ xs. All Stands xs) (sym (ap (λ v. v.items) c.replace-stands.ensures.value)) h)).0
