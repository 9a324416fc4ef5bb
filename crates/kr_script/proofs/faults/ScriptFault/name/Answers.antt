use Rattle.std.proofs.Common.{arith}
use Rattle.std.proofs.lemmas.Grind.{common_steps}
use Rattle.kr_script.proofs.faults.ScriptFault.name.Goals as goal

pub returns-in-TooMany : goal.returns-in-TooMany
returns-in-TooMany c = grind (arith, common_steps)
