use Rattle.std.proofs.Common.{rules, arith}
use Rattle.std.specs.Prelude.{◌==◌, not}
use Rattle.std.proofs.lemmas.Bool.Decides.{nat_tests}
use Rattle.kr_model.specs.Locks.{holder_of}
use Rattle.kr_model.proofs.Retained.{filter_from_retained}
use Rattle.kr_trace_follow.proofs.waits.forget.Goals as goal

pub returns : goal.returns
returns c = filter_from_retained _ (λ x. not (holder_of x == c.args.txn)) _ (λ x b g h. (grind (arith, nat_tests, h), search rules)) _ _ c.retain.ensures.filtered
