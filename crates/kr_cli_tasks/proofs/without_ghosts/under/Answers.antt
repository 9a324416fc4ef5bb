use Rattle.std.proofs.Common.{sym}
use Rattle.kr_cli_tasks.proofs.without_ghosts.under.Goals as goal

-- The task is to run this script.
pub returns-in-Run-clause-reports : goal.returns-in-Run-clause-reports
returns-in-Run-clause-reports g c = rw c.in-Run.is c.run_script.ensures.reports

pub returns-in-Run-clause-err : goal.returns-in-Run-clause-err
returns-in-Run-clause-err g c = rw c.in-Run.is c.run_script.ensures.err

-- The task is to judge these words.
pub returns-in-Judge-clause-err : goal.returns-in-Judge-clause-err
returns-in-Judge-clause-err g c = rw (c.in-Judge.is, sym c.as_slice.ensures.value) c.judge_scripts.ensures.err
