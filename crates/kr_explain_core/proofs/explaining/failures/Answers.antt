use Rattle.std.proofs.Common.{rules}
use Rattle.kr_explain_core.proofs.explaining.failures.Goals as goal

pub returns : goal.returns
returns g c = search rules
