use Rattle.kr_model.specs.declared.Row.TheVariants as row
use Rattle.kr_model.specs.declared.Side.TheVariants.{Current, Next}
use Rattle.kr_decide.proofs.Growing.{grows_on}
use Rattle.kr_decide.proofs.Following.{plain_moves, moves_grown, spot_grown}
use Rattle.kr_decide.proofs.finding.Found.add_plain.Goals as goal

pub add_move-requires-2 : goal.add_move-requires-2
add_move-requires-2 g c =
    let p = g.P.Protocol.table c.args.protocol.now in
    record { found = c.in_ok-add_move.ensures.grows.found; spot = spot_grown p _ _ c.args.spot c.in_ok-add_move.ensures.grows c.requires.spot }

pub add_move-requires-3 : goal.add_move-requires-3
add_move-requires-3 g c =
    let p = g.P.Protocol.table c.args.protocol.now in
    let spot-1 = spot_grown p _ _ c.args.spot c.in_ok-add_move.ensures.grows c.requires.spot in
    record { found = c.in_ok-add_move-2.ensures.grows.found; spot = spot_grown p _ _ c.args.spot c.in_ok-add_move-2.ensures.grows spot-1 }

pub add_move-requires-4 : goal.add_move-requires-4
add_move-requires-4 g c =
    let p = g.P.Protocol.table c.args.protocol.now in
    let spot-1 = spot_grown p _ _ c.args.spot c.in_ok-add_move.ensures.grows c.requires.spot in
    let spot-2 = spot_grown p _ _ c.args.spot c.in_ok-add_move-2.ensures.grows spot-1 in
    record { found = c.in_ok-add_move-3.ensures.grows.found; spot = spot_grown p _ _ c.args.spot c.in_ok-add_move-3.ensures.grows spot-2 }

pub add_move-requires-5 : goal.add_move-requires-5
add_move-requires-5 g c =
    let p = g.P.Protocol.table c.args.protocol.now in
    let spot-1 = spot_grown p _ _ c.args.spot c.in_ok-add_move.ensures.grows c.requires.spot in
    let spot-2 = spot_grown p _ _ c.args.spot c.in_ok-add_move-2.ensures.grows spot-1 in
    let spot-3 = spot_grown p _ _ c.args.spot c.in_ok-add_move-3.ensures.grows spot-2 in
    record { found = c.in_ok-add_move-4.ensures.grows.found; spot = spot_grown p _ _ c.args.spot c.in_ok-add_move-4.ensures.grows spot-3 }

pub add_move-requires-6 : goal.add_move-requires-6
add_move-requires-6 g c =
    let p = g.P.Protocol.table c.args.protocol.now in
    let spot-1 = spot_grown p _ _ c.args.spot c.in_ok-add_move.ensures.grows c.requires.spot in
    let spot-2 = spot_grown p _ _ c.args.spot c.in_ok-add_move-2.ensures.grows spot-1 in
    let spot-3 = spot_grown p _ _ c.args.spot c.in_ok-add_move-3.ensures.grows spot-2 in
    let spot-4 = spot_grown p _ _ c.args.spot c.in_ok-add_move-4.ensures.grows spot-3 in
    record { found = c.in_ok-add_move-5.ensures.grows.found; spot = spot_grown p _ _ c.args.spot c.in_ok-add_move-5.ensures.grows spot-4 }

pub add_move-requires-7 : goal.add_move-requires-7
add_move-requires-7 g c =
    let p = g.P.Protocol.table c.args.protocol.now in
    let spot-1 = spot_grown p _ _ c.args.spot c.in_ok-add_move.ensures.grows c.requires.spot in
    let spot-2 = spot_grown p _ _ c.args.spot c.in_ok-add_move-2.ensures.grows spot-1 in
    let spot-3 = spot_grown p _ _ c.args.spot c.in_ok-add_move-3.ensures.grows spot-2 in
    let spot-4 = spot_grown p _ _ c.args.spot c.in_ok-add_move-4.ensures.grows spot-3 in
    let spot-5 = spot_grown p _ _ c.args.spot c.in_ok-add_move-5.ensures.grows spot-4 in
    record { found = c.in_ok-add_move-6.ensures.grows.found; spot = spot_grown p _ _ c.args.spot c.in_ok-add_move-6.ensures.grows spot-5 }

pub returns-clause-grows : goal.returns-clause-grows
returns-clause-grows g c =
    let p = g.P.Protocol.table c.args.protocol.now in
    let by-2 = grows_on p _ _ _ c.in_ok-add_move.ensures.grows c.in_ok-add_move-2.ensures.grows in
    let by-3 = grows_on p _ _ _ by-2 c.in_ok-add_move-3.ensures.grows in
    let by-4 = grows_on p _ _ _ by-3 c.in_ok-add_move-4.ensures.grows in
    let by-5 = grows_on p _ _ _ by-4 c.in_ok-add_move-5.ensures.grows in
    let by-6 = grows_on p _ _ _ by-5 c.in_ok-add_move-6.ensures.grows in
    grows_on p _ _ _ by-6 c.in_ok-add_move-7.ensures.grows

pub returns-clause-moves : goal.returns-clause-moves
returns-clause-moves g c =
    let p = g.P.Protocol.table c.args.protocol.now in
    let x = c.args.spot.pair.own in
    let y = c.args.spot.pair.other in
    let n = c.args.spot.above.state in
    let after-6 = c.in_ok-add_move-7.ensures.grows in
    let after-5 = grows_on p _ _ _ c.in_ok-add_move-6.ensures.grows after-6 in
    let after-4 = grows_on p _ _ _ c.in_ok-add_move-5.ensures.grows after-5 in
    let after-3 = grows_on p _ _ _ c.in_ok-add_move-4.ensures.grows after-4 in
    let after-2 = grows_on p _ _ _ c.in_ok-add_move-3.ensures.grows after-3 in
    let after-1 = grows_on p _ _ _ c.in_ok-add_move-2.ensures.grows after-2 in
    plain_moves p _ x y n
    (moves_grown p _ _ x y n row.FetchHit Current after-1 c.in_ok-add_move.ensures.moves)
    (moves_grown p _ _ x y n row.FetchMiss Next after-2 c.in_ok-add_move-2.ensures.moves)
    (moves_grown p _ _ x y n row.ScanKey Current after-3 c.in_ok-add_move-3.ensures.moves)
    (moves_grown p _ _ x y n row.ScanStop Next after-4 c.in_ok-add_move-4.ensures.moves)
    (moves_grown p _ _ x y n row.Insert Next after-5 c.in_ok-add_move-5.ensures.moves)
    (moves_grown p _ _ x y n row.Delete Next after-6 c.in_ok-add_move-6.ensures.moves)
    c.in_ok-add_move-7.ensures.moves
