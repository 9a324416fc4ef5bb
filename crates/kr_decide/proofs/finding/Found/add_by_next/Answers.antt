use Rattle.kr_model.specs.declared.Row.TheVariants as row
use Rattle.kr_model.specs.declared.Side.TheVariants.{Current}
use Rattle.kr_decide.proofs.Growing.{grows_on}
use Rattle.kr_decide.proofs.Following.{by_next_moves, moves_grown, spot_grown}
use Rattle.kr_decide.proofs.finding.Found.add_by_next.Goals as goal

pub add_move-requires-2 : goal.add_move-requires-2
add_move-requires-2 g c =
    let p = g.P.Protocol.table c.args.protocol.now in
    record { found = c.in_ok-add_move.ensures.grows.found; spot = spot_grown p _ _ c.args.spot c.in_ok-add_move.ensures.grows c.requires.spot }

pub returns-clause-grows : goal.returns-clause-grows
returns-clause-grows g c = grows_on (g.P.Protocol.table c.args.protocol.now) _ _ _ c.in_ok-add_move.ensures.grows c.in_ok-add_move-2.ensures.grows

pub returns-clause-moves : goal.returns-clause-moves
returns-clause-moves g c =
    let p = g.P.Protocol.table c.args.protocol.now in
    let x = c.args.spot.pair.own in
    let y = c.args.spot.pair.other in
    let n = c.args.spot.above.state in
    by_next_moves p _ x y n (moves_grown p _ _ x y n row.Insert Current c.in_ok-add_move-2.ensures.grows c.in_ok-add_move.ensures.moves) c.in_ok-add_move-2.ensures.moves
