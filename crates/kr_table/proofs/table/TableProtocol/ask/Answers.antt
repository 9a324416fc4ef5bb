use Rattle.std.proofs.Common.{arith}
use Rattle.std.proofs.lemmas.Grind.{common_steps}
use Rattle.kr_table.proofs.table.TableProtocol.ask.Goals as goal

pub returns-in-Insert-Next : goal.returns-in-Insert-Next
returns-in-Insert-Next c = grind (arith, common_steps)
