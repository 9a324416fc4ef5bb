use Rattle.std.proofs.Common.{arith}
use Rattle.std.proofs.lemmas.Grind.{common_steps}
use Rattle.kr_table.proofs.faults.TableFault.number.Goals as goal

pub returns-in-ModeCount : goal.returns-in-ModeCount
returns-in-ModeCount c = grind (arith, common_steps)
