use Rattle.std.proofs.Common.{◌<◌, length, ap, ◌∙◌, arith}
use Rattle.kr_txn.specs.Logs.{number_of, operations_of}
use Rattle.kr_txn.proofs.InPlace.{set_same}
use Rattle.kr_txn.proofs.LogSteps.{unfinished_len}
use Rattle.kr_txn.proofs.unfinished.make_room_at.Goals as goal

pub returns-clause-same : goal.returns-clause-same
returns-clause-same c =
    let x = c.index_mut.result.now in
    let lt : c.args.place < length c.args.list.now.items = omega (arith, c.requires, unfinished_len c.args.list.now) in
    set_same number_of operations_of c.make_room_in.new.unfinished c.args.list.now.items c.args.place x lt (c.make_room_in.ensures.txn ∙ ap number_of c.index_mut.ensures.value) (c.make_room_in.ensures.operations ∙ ap operations_of c.index_mut.ensures.value)
