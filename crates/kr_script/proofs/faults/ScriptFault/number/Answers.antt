use Rattle.std.proofs.Common.{arith}
use Rattle.std.proofs.lemmas.Grind.{common_steps}
use Rattle.kr_script.proofs.faults.ScriptFault.number.Goals as goal

pub returns-in-Step : goal.returns-in-Step
returns-in-Step c = grind (arith, common_steps)
