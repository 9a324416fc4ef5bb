use Rattle.std.proofs.Common.{arith}
use Rattle.std.proofs.lemmas.Grind.{common_steps}
use Rattle.kr_cli.proofs.endings.status_of.Goals as goal

pub returns-in-Ok-false-clause-well : goal.returns-in-Ok-false-clause-well
returns-in-Ok-false-clause-well c = grind (arith, common_steps)

pub returns-in-Ok-false-clause-not_well : goal.returns-in-Ok-false-clause-not_well
returns-in-Ok-false-clause-not_well c = grind (arith, common_steps)
