use Rattle.std.proofs.Common.{◌≡◌, arith, nat_lt, length, false}
use Rattle.std.proofs.lemmas.Bool.Decides.{nat_tests}
use Rattle.serde_json.proofs.Views.{items_len-items_view}
use Rattle.kr_script.proofs.reading.test_size.Goals as goal

pub returns-then-list-gt-MAX_ELEMENTS : goal.returns-then-list-gt-MAX_ELEMENTS
returns-then-list-gt-MAX_ELEMENTS c =
    let many : nat_lt (length c.args.list.now) 100001 ≡ false = grind (arith, nat_tests) in
    rw (items_len-items_view c.args.list.now, many) c.too_many.ensures

pub returns : goal.returns
returns c = rw (items_len-items_view c.args.list.now) (grind (arith, nat_tests))
