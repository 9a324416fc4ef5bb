use Rattle.std.proofs.Common.{arith}
use Rattle.std.proofs.lemmas.Grind.{common_steps}
use Rattle.kr_explain_text.proofs.cells.op_cell.Goals as goal

pub returns-then-txn-event : goal.returns-then-txn-event
returns-then-txn-event c = grind (arith, common_steps)

pub returns-else-txn-event : goal.returns-else-txn-event
returns-else-txn-event c = grind (arith, common_steps)
