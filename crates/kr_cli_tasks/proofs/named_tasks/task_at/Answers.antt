use Rattle.std.proofs.Common.{rules}
use Rattle.kr_cli_tasks.proofs.TaskAnswered.{done, done_with_ghosts}
use Rattle.kr_cli_tasks.proofs.TaskEnded.{no_table, task_ends, ghost_task_ends}
use Rattle.kr_cli_tasks.proofs.named_tasks.task_at.Goals as goal

pub returns-in_err-table-clause-err : goal.returns-in_err-table-clause-err
returns-in_err-table-clause-err g c =
    let ends = no_table (g.F.Files.may_give c.args.files.now) c.args.table.now c.args.task.now _ c.in_err-table.ensures.fault in
    search rules

-- A table without ghosts.
pub returns-in-Table-clause-does : goal.returns-in-Table-clause-does
returns-in-Table-clause-does g c =
    let taken = g.W.Sink.taken in
    done (g.F.Files.may_give c.args.files.now) c.under.result c.args.table.now c.args.task.now c.in-Table.table (taken c.args.out.now) (taken c.under.new.out) (rw c.in-Table.is at c.in_ok-table.ensures.table) c.under.ensures.reports

pub returns-in-Table-clause-err : goal.returns-in-Table-clause-err
returns-in-Table-clause-err g c = task_ends (g.F.Files.may_give c.args.files.now) c.under.result c.args.table.now c.args.task.now c.in-Table.table (rw c.in-Table.is at c.in_ok-table.ensures.table) c.under.ensures.err

-- A table with ghosts.
pub returns-in-Ghosts-clause-does : goal.returns-in-Ghosts-clause-does
returns-in-Ghosts-clause-does g c =
    let taken = g.W.Sink.taken in
    done_with_ghosts (g.F.Files.may_give c.args.files.now) c.under_ghosts.result c.args.table.now c.args.task.now c.in-Ghosts.table (taken c.args.out.now) (taken c.under_ghosts.new.out) (rw c.in-Ghosts.is at c.in_ok-table.ensures.table) c.under_ghosts.ensures.reports

pub returns-in-Ghosts-clause-err : goal.returns-in-Ghosts-clause-err
returns-in-Ghosts-clause-err g c = ghost_task_ends (g.F.Files.may_give c.args.files.now) c.under_ghosts.result c.args.table.now c.args.task.now c.in-Ghosts.table (rw c.in-Ghosts.is at c.in_ok-table.ensures.table) c.under_ghosts.ensures.err
