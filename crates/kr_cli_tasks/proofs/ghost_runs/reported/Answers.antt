use Rattle.std.proofs.Common.{arith}
use Rattle.std.proofs.lemmas.Grind.{common_steps}
use Rattle.kr_cli_tasks.proofs.ghost_runs.reported.Goals as goal

pub report_covered-requires : goal.report_covered-requires
report_covered-requires g c = grind (arith, common_steps)
