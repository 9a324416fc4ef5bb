use Rattle.std.proofs.Common.{sym}
use Rattle.kr_ghost.proofs.AllCases.{covered_is_safe}
use Rattle.kr_cli_tasks.proofs.with_ghosts.under_ghosts.Goals as goal

-- The task is to run this script.
pub returns-in-Run-clause-reports : goal.returns-in-Run-clause-reports
returns-in-Run-clause-reports g c = rw c.in-Run.is c.run_ghosts.ensures.reports

pub returns-in-Run-clause-err : goal.returns-in-Run-clause-err
returns-in-Run-clause-err g c = rw c.in-Run.is c.run_ghosts.ensures.err

-- Under a covered protocol, which is safe, the run is serializable.
pub returns-in-Run-clause-covered : goal.returns-in-Run-clause-covered
returns-in-Run-clause-covered g c covered =
    let p = g.P.GhostProtocol.ghosts c.args.protocol.now in
    c.run_ghosts.ensures.safe (covered_is_safe p (g.met.P.GhostProtocol.lawful_ghosts c.args.protocol.now) covered)

-- The task is to judge these words.
pub returns-in-Judge-clause-reports : goal.returns-in-Judge-clause-reports
returns-in-Judge-clause-reports g c = rw c.in-Judge.is (rw c.as_slice.ensures.value at c.judge_ghosts.ensures.reports)

pub returns-in-Judge-clause-err : goal.returns-in-Judge-clause-err
returns-in-Judge-clause-err g c = rw (c.in-Judge.is, sym c.as_slice.ensures.value) c.judge_ghosts.ensures.err

pub returns-in-Judge-clause-covered : goal.returns-in-Judge-clause-covered
returns-in-Judge-clause-covered g c covered =
    let p = g.P.GhostProtocol.ghosts c.args.protocol.now in
    c.judge_ghosts.ensures.safe (covered_is_safe p (g.met.P.GhostProtocol.lawful_ghosts c.args.protocol.now) covered)
