use Rattle.std.proofs.Common.{arith}
use Rattle.std.proofs.lemmas.Grind.{common_steps}
use Rattle.kr_view_scenes.proofs.words.reason_of.Goals as goal

pub returns-in-NoScan : goal.returns-in-NoScan
returns-in-NoScan c = grind (arith, common_steps)
