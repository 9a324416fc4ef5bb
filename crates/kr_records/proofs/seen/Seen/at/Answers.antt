use Rattle.std.proofs.Common.{arith}
use Rattle.std.proofs.lemmas.Grind.{common_steps}
use Rattle.kr_records.proofs.seen.Seen.at.Goals as goal

pub returns-clause-cell : goal.returns-clause-cell
returns-clause-cell g c = grind (arith, common_steps)

pub returns-clause-known : goal.returns-clause-known
returns-clause-known g c = grind (arith, common_steps)
