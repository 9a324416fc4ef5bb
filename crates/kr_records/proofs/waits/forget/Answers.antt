use Rattle.std.proofs.Common.{rules, arith}
use Rattle.std.specs.Prelude.{◌==◌}
use mathlib.Core.Bool.{not}
use Rattle.std.proofs.lemmas.Bool.Decides.{nat_tests}
use Rattle.kr_model.proofs.Retained.{filter_from_retained}
use Rattle.kr_records.proofs.waits.forget.Goals as goal

pub returns-clause-items : goal.returns-clause-items
returns-clause-items c = filter_from_retained _ (λ x. not (x.txn == c.args.txn)) _ (λ x b g h. (grind (arith, nat_tests, h), search rules)) _ _ c.retain.ensures.filtered
