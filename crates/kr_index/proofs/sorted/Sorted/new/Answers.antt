use Rattle.std.proofs.Common.{arith}
use Rattle.std.proofs.lemmas.Grind.{common_steps}
use Rattle.kr_index.proofs.sorted.Sorted.new.Goals as goal

pub returns-clause-map : goal.returns-clause-map
returns-clause-map c = grind (arith, common_steps)
