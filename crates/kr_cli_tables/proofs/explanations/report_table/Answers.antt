use Rattle.std.proofs.Common.{subst, sym}
use Rattle.kr_cli.specs.GhostLawful.{lawful_ghosts_of}
use Rattle.kr_cli_tables.specs.Explain.{IsLawfulTable}
use Rattle.kr_cli_tables.proofs.explanations.report_table.Goals as goal

-- each table with ghosts that is named is lawful
pub returns-in-Ghosts-clause-lawful : goal.returns-in-Ghosts-clause-lawful
returns-in-Ghosts-clause-lawful g c = subst IsLawfulTable (sym c.in-Ghosts.is) (lawful_ghosts_of c.in-Ghosts.it)
