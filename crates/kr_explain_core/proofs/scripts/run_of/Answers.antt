use Rattle.std.proofs.Common.{rules}
use Rattle.kr_explain_core.proofs.scripts.run_of.Goals as goal

pub invariant_of-result : goal.invariant_of-result
invariant_of-result c = search rules
