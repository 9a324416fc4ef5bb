use Rattle.std.proofs.Common.{arith}
use Rattle.std.proofs.lemmas.Grind.{common_steps}
use Rattle.kr_cli_tasks.proofs.runs.judged.Goals as goal

pub returns-clause-serial : goal.returns-clause-serial
returns-clause-serial g c = grind (arith, common_steps)

pub returns-clause-text : goal.returns-clause-text
returns-clause-text g c = grind (arith, common_steps)
