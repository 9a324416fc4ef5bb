use Rattle.kr_apart.proofs.ScriptParts.{of_run}
use Rattle.kr_apart.proofs.tells.replies_are_of_the_run.Goals as goal

pub returns : goal.returns
returns c = of_run
