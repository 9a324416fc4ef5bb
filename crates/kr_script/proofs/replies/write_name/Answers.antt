use Rattle.std.proofs.Common.{arith}
use Rattle.std.proofs.lemmas.Grind.{common_steps}
use Rattle.kr_script.proofs.replies.write_name.Goals as goal

pub returns-in-Key : goal.returns-in-Key
returns-in-Key c = grind (arith, common_steps)
