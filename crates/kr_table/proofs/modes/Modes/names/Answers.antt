use Rattle.std.proofs.Common.{arith}
use Rattle.std.proofs.lemmas.Grind.{common_steps}
use Rattle.kr_table.proofs.modes.Modes.names.Goals as goal

pub returns-clause-names : goal.returns-clause-names
returns-clause-names c = grind (arith, common_steps)

pub returns-clause-one_each : goal.returns-clause-one_each
returns-clause-one_each c = grind (arith, common_steps)
