use Rattle.std.proofs.Common.{◌<◌, arith, sym, ◌∙◌, subst}
use Rattle.kr_model.specs.Locks.{IsLocks}
use Rattle.kr_model.proofs.Keep.{IsLocks-keep, keep_some}
use Rattle.kr_locks.proofs.list.keep_in.Goals as goal

pub returns-then-mode-eq0-clause-in_order : goal.returns-then-mode-eq0-clause-in_order
returns-then-mode-eq0-clause-in_order c = rw c.forget.ensures (IsLocks-keep c.args.held.now.items c.args.txn c.args.name 0 c.requires)

pub returns-clause-in_order : goal.returns-clause-in_order
returns-clause-in_order c =
    let some : 0 < c.args.mode = omega arith in
    let kept = c.in_ok-store.ensures.ok ∙ sym (keep_some c.args.held.now.items c.args.txn c.args.name c.args.mode some) in
    subst IsLocks (sym kept) (IsLocks-keep c.args.held.now.items c.args.txn c.args.name c.args.mode c.requires)
