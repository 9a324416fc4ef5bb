use Rattle.std.proofs.Common.{ℕ, ◌-◌, ◌<◌, ◌≤◌, length, get_or, nat_lt, arith}
use Rattle.std.specs.Prelude.{IsTrue}
use Rattle.std.proofs.lemmas.Bool.Decides.{nat_tests}
use Rattle.kr_model.proofs.Bisection.{rise_between}
use Rattle.kr_txn.proofs.ended.is_past.Goals as goal

is_below : (x t : ℕ) → IsTrue (nat_lt x t) → x < t
is_below x t h = grind (arith, nat_tests)

pub returns-else-is_empty : goal.returns-else-is_empty
returns-else-is_empty c past k lt =
    let xs = c.args.numbers.now in
    let last : get_or xs (length xs - 1) 0 < c.args.txn = is_below (get_or xs (length xs - 1) 0) c.args.txn past in
    let rise : get_or xs k 0 ≤ get_or xs (length xs - 1) 0 = rise_between xs c.requires k (length xs - 1) (omega arith) (omega arith) in
    omega (arith, last, rise)
