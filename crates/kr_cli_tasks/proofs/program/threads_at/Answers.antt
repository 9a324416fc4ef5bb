use Rattle.std.proofs.Common.{rules}
use Rattle.kr_cli_tasks.proofs.ProgramAnswered.{done, done_with_ghosts}
use Rattle.kr_cli_tasks.proofs.ProgramEnded.{no_table, no_script, no_ghost_script}
use Rattle.kr_cli_tasks.proofs.program.threads_at.Goals as goal

pub returns-in_err-table-clause-err : goal.returns-in_err-table-clause-err
returns-in_err-table-clause-err g c =
    let ends = no_table (g.F.Files.may_give c.args.files.now) c.args.table.now c.args.script.now _ c.in_err-table.ensures.fault in
    search rules

-- A table without ghosts.
pub returns-in-Table-clause-does : goal.returns-in-Table-clause-does
returns-in-Table-clause-does g c =
    let taken = g.W.Sink.taken in
    done (g.F.Files.may_give c.args.files.now) c.check_and_thread.result c.args.table.now c.args.script.now c.in-Table.table (taken c.args.out.now) (taken c.check_and_thread.new.out) (rw c.in-Table.is at c.in_ok-table.ensures.table) c.check_and_thread.ensures.reports

pub returns-in-Table-clause-err : goal.returns-in-Table-clause-err
returns-in-Table-clause-err g c = no_script (g.F.Files.may_give c.args.files.now) c.check_and_thread.result c.args.table.now c.args.script.now c.in-Table.table (rw c.in-Table.is at c.in_ok-table.ensures.table) c.check_and_thread.ensures.err

-- A table with ghosts.
pub returns-in-Ghosts-clause-does : goal.returns-in-Ghosts-clause-does
returns-in-Ghosts-clause-does g c =
    let taken = g.W.Sink.taken in
    done_with_ghosts (g.F.Files.may_give c.args.files.now) c.check_and_thread_ghosts.result c.args.table.now c.args.script.now c.in-Ghosts.table (taken c.args.out.now) (taken c.check_and_thread_ghosts.new.out) (rw c.in-Ghosts.is at c.in_ok-table.ensures.table) c.check_and_thread_ghosts.ensures.reports

pub returns-in-Ghosts-clause-err : goal.returns-in-Ghosts-clause-err
returns-in-Ghosts-clause-err g c = no_ghost_script (g.F.Files.may_give c.args.files.now) c.check_and_thread_ghosts.result c.args.table.now c.args.script.now c.in-Ghosts.table (rw c.in-Ghosts.is at c.in_ok-table.ensures.table) c.check_and_thread_ghosts.ensures.err
