use Rattle.std.proofs.Common.{◌<◌, get_or, ◌∙◌, sym, arith}
use Rattle.kr_model.proofs.Bisection.{found_at}
use Rattle.kr_txn.proofs.EndedLaws.{any-found, none_at}
use Rattle.kr_txn.proofs.ended.is_in.Goals as goal

pub returns-then-is_past : goal.returns-then-is_past
returns-then-is_past c =
    let xs = c.args.numbers.now in
    sym (none_at xs c.args.txn (λ k lt e.
    let below : get_or xs k 0 < c.args.txn = c.is_past.ensures c.if-is_past.true k lt in
    absurd (omega (arith, below, e))))

pub returns : goal.returns
returns c =
    let xs = c.args.numbers.now in
    c.is_ok.ensures.value ∙ sym (any-found xs c.args.txn c.binary_search.result (found_at xs c.args.txn c.binary_search.result c.requires c.binary_search.ensures.position))
