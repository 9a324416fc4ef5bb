use Rattle.kr_txn.specs.Standings.{active_of, entries, IsInOrder}
use Rattle.kr_txn.proofs.Lists.{find-without, in_order-without, in_order-put}
use Rattle.kr_crates_tests.proofs.tests.steps.txn.stand.Goals as goal

pub put_in-requires-clause-others : goal.put_in-requires-clause-others
put_in-requires-clause-others c = rw (c.new.ensures.txn, c.take_out.ensures.rest) (find-without c.args.txn (entries c.reserve.new.self.items))

pub returns : goal.returns
returns c =
    let start : IsInOrder c.reserve.new.self.items = rw c.reserve.ensures.items c.requires in
    let rest : IsInOrder c.take_out.new.list.items = rw c.take_out.ensures.rest (in_order-without c.args.txn (entries c.reserve.new.self.items) start) in
    rw c.put_in.ensures.items (in_order-put c.new.result.txn (entries c.take_out.new.list.items) rest (active_of c.new.result))
