use Rattle.std.proofs.Common.{sym, ap, ◌∙◌, subst, length, Some}
use Rattle.std.specs.Prelude.{T}
use Rattle.kr_txn.specs.Numbered.{AreOthers, IsPosition}
use Rattle.kr_txn.specs.Logs.{number_of, operations_of, entries}
use Rattle.kr_txn.proofs.Lists.{left, found, not_found, all_left, in_order-without, find-without}
use Rattle.std.specs.Ordering.{nat_cmp}
use Rattle.std.specs.FinMap.{find, is_sorted}
use Rattle.std.specs.Prelude.{IsTrue}
use Rattle.std.proofs.Common.{◌≡◌, None}
use Rattle.kr_txn.proofs.unfinished.take_out.Goals as goal

pub returns-in-Some-clause-found : goal.returns-in-Some-clause-found
returns-in-Some-clause-found c =
    let at : IsPosition number_of c.args.txn c.args.list.now.items c.in-Some.i = subst (λ xs. IsPosition number_of c.args.txn xs c.in-Some.i) c.deref.ensures.value c.in-Some.ensures.some in
    ap (λ s. Some (s.operations.items)) c.remove.ensures.value ∙ sym (found number_of operations_of c.args.txn c.args.list.now.items c.in-Some.i at.within at.others at.here c.remove.result)

pub returns-in-None-clause-found : goal.returns-in-None-clause-found
returns-in-None-clause-found c =
    let others : AreOthers number_of c.args.txn c.args.list.now.items (length c.args.list.now.items) = subst (λ xs. AreOthers number_of c.args.txn xs (length xs)) c.deref.ensures.value c.in-None.ensures.none in
    sym (not_found number_of operations_of c.args.txn c.args.list.now.items others)

pub returns-in-Some-clause-rest : goal.returns-in-Some-clause-rest
returns-in-Some-clause-rest c =
    let at : IsPosition number_of c.args.txn c.args.list.now.items c.in-Some.i = subst (λ xs. IsPosition number_of c.args.txn xs c.in-Some.i) c.deref.ensures.value c.in-Some.ensures.some in
    ap entries c.remove.ensures.items ∙ left number_of operations_of c.args.txn c.args.list.now.items c.in-Some.i at.within at.others at.here (subst (λ b. T b) (sym c.requires) tt)

pub returns-in-None-clause-rest : goal.returns-in-None-clause-rest
returns-in-None-clause-rest c =
    let others : AreOthers number_of c.args.txn c.args.list.now.items (length c.args.list.now.items) = subst (λ xs. AreOthers number_of c.args.txn xs (length xs)) c.deref.ensures.value c.in-None.ensures.none in
    all_left number_of operations_of c.args.txn c.args.list.now.items others

pub returns-in-Some-clause-in_order : goal.returns-in-Some-clause-in_order
returns-in-Some-clause-in_order c = subst (λ es. IsTrue (is_sorted nat_cmp es)) (sym (returns-in-Some-clause-rest c)) (in_order-without c.args.txn (entries c.args.list.now.items) c.requires)

pub returns-in-Some-clause-gone : goal.returns-in-Some-clause-gone
returns-in-Some-clause-gone c = subst (λ es. find nat_cmp c.args.txn es ≡ None) (sym (returns-in-Some-clause-rest c)) (find-without c.args.txn (entries c.args.list.now.items))

pub returns-in-None-clause-gone : goal.returns-in-None-clause-gone
returns-in-None-clause-gone c =
    let others : AreOthers number_of c.args.txn c.args.list.now.items (length c.args.list.now.items) = subst (λ xs. AreOthers number_of c.args.txn xs (length xs)) c.deref.ensures.value c.in-None.ensures.none in
    not_found number_of operations_of c.args.txn c.args.list.now.items others
