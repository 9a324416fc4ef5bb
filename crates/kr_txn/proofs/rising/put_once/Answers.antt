use Rattle.std.specs.List.Sorted.{IsBinarySearchResult}
use Rattle.std.specs.Ordering.{nat_cmp}
use Rattle.std.proofs.Common.{subst, sym, ◌∙◌}
use Rattle.kr_model.proofs.Bisection.{IsFoundAt, found_at, add_once-missing, add_once-present}
use Rattle.kr_txn.proofs.rising.put_once.Goals as goal

pub returns-in_ok-insert-clause-items : goal.returns-in_ok-insert-clause-items
returns-in_ok-insert-clause-items c =
    let xs = c.args.txns.now.items in
    let found = subst (λ l. IsBinarySearchResult (λ y. nat_cmp y c.args.txn) l c.binary_search.result) c.deref.ensures.value c.binary_search.ensures.position in
    let at = subst (IsFoundAt xs c.args.txn) c.in-Err.is (found_at xs c.args.txn c.binary_search.result c.requires found) in
    c.in_ok-insert.ensures.items ∙ sym (add_once-missing xs c.args.txn c.in-Err.place at)

pub returns-in_default-clause-items : goal.returns-in_default-clause-items
returns-in_default-clause-items c =
    let xs = c.args.txns.now.items in
    let found = subst (λ l. IsBinarySearchResult (λ y. nat_cmp y c.args.txn) l c.binary_search.result) c.deref.ensures.value c.binary_search.ensures.position in
    let at = subst (IsFoundAt xs c.args.txn) c.in_default.is (found_at xs c.args.txn c.binary_search.result c.requires found) in
    sym (add_once-present xs c.args.txn c.in_default.field-0 c.requires at)
