use Rattle.std.proofs.Common.{sym, ap, ◌∙◌, subst, length}
use Rattle.std.specs.List.{insert}
use Rattle.kr_txn.specs.Numbered.{AreOthers, IsPlace}
use Rattle.kr_txn.specs.Logs.{number_of, operations_of, entries}
use Rattle.std.specs.Prelude.{IsTrue}
use Rattle.std.specs.Ordering.{nat_cmp}
use Rattle.std.specs.FinMap.{is_sorted}
use Rattle.kr_txn.proofs.Lists.{others_of, placed, if_ok, in_order-put}
use Rattle.kr_txn.proofs.unfinished.put_in.Goals as goal

pub place-i-requires : goal.place-i-requires
place-i-requires c = subst (λ xs. AreOthers number_of c.args.unfinished.txn xs (length xs)) (sym c.deref.ensures.value) (others_of number_of operations_of c.args.unfinished.txn c.args.list.now.items c.requires.others)

pub returns-clause-items : goal.returns-clause-items
returns-clause-items c =
    let at : IsPlace number_of c.args.unfinished.txn c.args.list.now.items c.place-i.result = subst (λ xs. IsPlace number_of c.args.unfinished.txn xs c.place-i.result) c.deref.ensures.value c.place-i.ensures in
    ap entries (if_ok c.insert.result c.insert.new.self.items (insert c.args.list.now.items c.place-i.result c.args.unfinished) c.args.list.now.items (c.insert.ensures.succeeds c.requires.room) c.insert.ensures.items)
    ∙ placed number_of operations_of c.args.unfinished c.args.list.now.items c.place-i.result at.within at.below at.above

pub returns-clause-in_order : goal.returns-clause-in_order
returns-clause-in_order c =
    subst (λ es. IsTrue (is_sorted nat_cmp es)) (sym (returns-clause-items c)) (in_order-put c.args.unfinished.txn (entries c.args.list.now.items) c.requires.in_order c.args.unfinished.operations.items)
