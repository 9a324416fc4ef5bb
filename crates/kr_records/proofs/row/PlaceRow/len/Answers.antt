use Rattle.std.proofs.Common.{arith}
use Rattle.std.proofs.lemmas.Grind.{common_steps}
use Rattle.kr_records.proofs.row.PlaceRow.len.Goals as goal

pub returns-clause-length : goal.returns-clause-length
returns-clause-length c = grind (arith, common_steps)
