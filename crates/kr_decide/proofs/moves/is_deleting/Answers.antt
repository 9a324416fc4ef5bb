use Rattle.std.proofs.Common.{arith}
use Rattle.std.proofs.lemmas.Grind.{common_steps}
use Rattle.kr_decide.proofs.moves.is_deleting.Goals as goal

pub returns-in-Delete-Current : goal.returns-in-Delete-Current
returns-in-Delete-Current c = grind (arith, common_steps)
