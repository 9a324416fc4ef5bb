use Rattle.kr_suite_core.proofs.Engines.{same_passes, alike_passes}
use Rattle.kr_suite_core.proofs.laws.who_follows_passes.Goals as goal

pub returns-clause-same : goal.returns-clause-same
returns-clause-same c = same_passes

pub returns-clause-alike : goal.returns-clause-alike
returns-clause-alike c = alike_passes
