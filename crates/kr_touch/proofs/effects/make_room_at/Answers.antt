use Rattle.std.proofs.Common.{ap, ◌∙◌, ◌<◌, length, arith}
use Rattle.kr_txn.specs.Standings.{active_of, number_of}
use Rattle.kr_txn.proofs.InPlace.{set_same}
use Rattle.kr_touch.proofs.InPlace.{standings_len}
use Rattle.kr_touch.proofs.effects.make_room_at.Goals as goal

pub returns-clause-same : goal.returns-clause-same
returns-clause-same c =
    let x = c.index_mut.result.now in
    let lt : c.args.place < length c.args.active.now.items = omega (arith, c.requires, standings_len c.args.active.now) in
    set_same number_of active_of c.make_room_in.new.standing c.args.active.now.items c.args.place x lt (c.make_room_in.ensures.txn ∙ ap number_of c.index_mut.ensures.value) (c.make_room_in.ensures.same ∙ ap active_of c.index_mut.ensures.value)
