use Rattle.std.proofs.Common.{arith}
use Rattle.std.proofs.lemmas.Grind.{common_steps}
use Rattle.kr_cli.proofs.tables.table_at.Goals as goal

pub returns-in-text-3-clause-table : goal.returns-in-text-3-clause-table
returns-in-text-3-clause-table g c = grind (arith, common_steps)
