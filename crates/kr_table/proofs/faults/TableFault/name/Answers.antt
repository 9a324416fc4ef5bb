use Rattle.std.proofs.Common.{arith}
use Rattle.std.proofs.lemmas.Grind.{common_steps}
use Rattle.kr_table.proofs.faults.TableFault.name.Goals as goal

pub returns-in-Compatible : goal.returns-in-Compatible
returns-in-Compatible c = grind (arith, common_steps)
