use Rattle.std.proofs.Common.{arith}
use Rattle.std.proofs.lemmas.Bool.Decides.{nat_tests}
use Rattle.kr_table.proofs.Lists.{items_len-items_view}
use Rattle.kr_table.proofs.walk.modes.test_count.Goals as goal

pub returns-then-is_empty : goal.returns-then-is_empty
returns-then-is_empty c = rw (items_len-items_view c.args.list.now) (grind (arith, nat_tests))

pub returns : goal.returns
returns c = rw (items_len-items_view c.args.list.now) (grind (arith, nat_tests))
