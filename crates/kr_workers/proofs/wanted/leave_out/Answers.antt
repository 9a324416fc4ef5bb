use Rattle.std.proofs.Common.{sym, arith}
use Rattle.std.proofs.lemmas.Bool.Decides.{nat_tests}
use Rattle.kr_workers.proofs.Wants.{none_left_out}
use Rattle.kr_workers.proofs.wanted.leave_out.Goals as goal

pub returns-then-is_empty : goal.returns-then-is_empty
returns-then-is_empty c = sym (none_left_out c.args.faults.now c.args.txn 1 c.args.ops.now.items (grind (arith, nat_tests)))
