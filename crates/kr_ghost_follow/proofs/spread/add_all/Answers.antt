use Rattle.std.proofs.Common.{All, ◌<◌, length, subst, sym, rules}
use Rattle.kr_ghost_follow.specs.Stands.{IsStanding}
use Rattle.kr_ghost_follow.proofs.Standing.{removed_first, removed_rest}
use Rattle.kr_ghost_follow.proofs.spread.add_all.Goals as goal

pub loop-alloc-preserved : goal.loop-alloc-preserved
loop-alloc-preserved g c q opening lines h more =
    let Stands = IsStanding g.P.GhostProtocol.ghosts q opening lines in
    let at = c.loop-alloc.invariant q opening lines h more in
    let some : 0 < length c.loop-alloc.more.items = search rules in (
      c.in_ok-left_out.ensures q opening lines at.0 (removed_first Stands c.loop-alloc.more.items c.remove-stand.result some c.remove-stand.ensures.value at.1),
      subst (λ xs. All Stands xs) (sym c.remove-stand.ensures.items) (removed_rest Stands c.loop-alloc.more.items some at.1),
    )

pub returns : goal.returns
returns g c q opening lines h more = (c.loop-alloc.invariant q opening lines h more).0
