use Rattle.kr_suite_core.proofs.Engines.{differs_fails}
use Rattle.kr_suite_core.proofs.laws.who_differs_fails.Goals as goal

pub returns : goal.returns
returns c = differs_fails
