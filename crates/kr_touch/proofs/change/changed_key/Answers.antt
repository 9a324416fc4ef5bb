use Rattle.std.proofs.Common.{arith}
use Rattle.std.proofs.lemmas.Grind.{common_steps}
use Rattle.kr_touch.proofs.change.changed_key.Goals as goal

pub returns-in-Delete-Delete : goal.returns-in-Delete-Delete
returns-in-Delete-Delete c = grind (arith, common_steps)
