use Rattle.std.proofs.Common.{rules, arith, subst, sym}
use Rattle.std.specs.Prelude.{◌==◌}
use mathlib.Core.Bool.{not}
use Rattle.std.proofs.lemmas.Bool.Decides.{nat_tests}
use Rattle.kr_model.proofs.Retained.{filter_from_retained}
use Rattle.kr_model.specs.Locks.{IsLocks}
use Rattle.kr_model.proofs.Keep.{IsLocks-release}
use Rattle.kr_locks.proofs.list.leave.Goals as goal

pub returns-clause-items : goal.returns-clause-items
returns-clause-items c = filter_from_retained _ (λ x. not (x.0.1 == c.args.txn)) _ (λ x b g h. (grind (arith, nat_tests, h), search rules)) _ _ c.retain.ensures.filtered

pub returns-clause-in_order : goal.returns-clause-in_order
returns-clause-in_order c = subst IsLocks (sym (filter_from_retained _ (λ x. not (x.0.1 == c.args.txn)) _ (λ x b g h. (grind (arith, nat_tests, h), search rules)) _ _ c.retain.ensures.filtered)) (IsLocks-release c.args.held.now.items c.args.txn c.requires)
