use Rattle.std.proofs.Common.{[], sym, subst, unwrap_or}
use Rattle.std.specs.Prelude.{IsTrue}
use Rattle.std.specs.Ordering.{nat_cmp}
use Rattle.std.specs.FinMap.{find, is_sorted}
use Rattle.kr_model.specs.Log.{with_step}
use Rattle.kr_txn.specs.Logs.{entries}
use Rattle.kr_txn.proofs.Lists.{in_order-put}
use Rattle.kr_txn.proofs.unfinished.do_step.Goals as goal

pub returns-in-Listed-clause-in_order : goal.returns-in-Listed-clause-in_order
returns-in-Listed-clause-in_order c =
    let es = entries c.args.list.now.items in
    subst (λ xs. IsTrue (is_sorted nat_cmp xs)) (sym c.do_step_at.ensures.items) (in_order-put c.in-Listed.txn es c.requires.in_order (with_step (unwrap_or (find nat_cmp c.in-Listed.txn es) []) c.args.op c.args.reply))
