use Rattle.std.specs.Prelude.{map, string_bytes}
use Rattle.std.proofs.Common.{rules}
use Rattle.kr_cli_tasks.proofs.ProgramAnswered.{answered}
use Rattle.kr_cli_tasks.proofs.ProgramEnded.{unread, ended}
use Rattle.kr_cli_tasks.proofs.program.task.Goals as goal

pub returns-in_err-table-clause-err : goal.returns-in_err-table-clause-err
returns-in_err-table-clause-err g c =
    let ends = unread (g.F.Files.may_give c.args.files.now) (map string_bytes c.args.words.now) _ c.in_err-table.ensures.err in
    search rules

-- By several threads.
pub returns-in-Threads-clause-answers : goal.returns-in-Threads-clause-answers
returns-in-Threads-clause-answers g c =
    let taken = g.W.Sink.taken in
    answered (g.F.Files.may_give c.args.files.now) (map string_bytes c.args.words.now) c.threads_at.result c.in_ok-table.field-0.table.now c.in_ok-table.field-0.form (taken c.args.out.now) (taken c.threads_at.new.out) c.in_ok-table.ensures.words (rw c.in-Threads.is c.threads_at.ensures.does)

pub returns-in-Threads-clause-err : goal.returns-in-Threads-clause-err
returns-in-Threads-clause-err g c = ended (g.F.Files.may_give c.args.files.now) (map string_bytes c.args.words.now) c.threads_at.result c.in_ok-table.field-0.table.now c.in_ok-table.field-0.form c.in_ok-table.ensures.words (rw c.in-Threads.is c.threads_at.ensures.err)

-- A task.
pub returns-in-Plain-clause-answers : goal.returns-in-Plain-clause-answers
returns-in-Plain-clause-answers g c =
    let taken = g.W.Sink.taken in
    answered (g.F.Files.may_give c.args.files.now) (map string_bytes c.args.words.now) c.task_at.result c.in_ok-table.field-0.table.now c.in_ok-table.field-0.form (taken c.args.out.now) (taken c.task_at.new.out) c.in_ok-table.ensures.words (rw c.in-Plain.is c.task_at.ensures.does)

pub returns-in-Plain-clause-err : goal.returns-in-Plain-clause-err
returns-in-Plain-clause-err g c = ended (g.F.Files.may_give c.args.files.now) (map string_bytes c.args.words.now) c.task_at.result c.in_ok-table.field-0.table.now c.in_ok-table.field-0.form c.in_ok-table.ensures.words (rw c.in-Plain.is c.task_at.ensures.err)
