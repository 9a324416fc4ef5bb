use Rattle.std.proofs.Common.{◌<◌, length, subst, sym, rules}
use Rattle.kr_ghost_follow.specs.Stands.{IsStanding}
use Rattle.kr_ghost_follow.proofs.spread.spread.Goals as goal

pub loop-i-init : goal.loop-i-init
loop-i-init g c q opening lines h others = c.in_ok-is_cut.ensures q opening lines others (c.in_ok-more.ensures q opening lines h)

pub loop-i-preserved : goal.loop-i-preserved
loop-i-preserved g c q opening lines h others =
    let Stands = IsStanding g.P.GhostProtocol.ghosts q opening lines in
    let all = c.loop-i.invariant q opening lines h others in
    let below : c.loop-i.i < length c.loop-i.others.items = search rules in
    let one : Stands c.index.result.now = subst Stands (sym c.index.ensures) (all c.loop-i.i c.index.result.now below) in
    c.in_ok-left_out.ensures q opening lines all (c.in_ok-more-2.ensures q opening lines one)
