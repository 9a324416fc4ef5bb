use Rattle.std.proofs.Common.{◌≡◌, sym, subst, IfOk, Result}
use Rattle.kr_model.specs.State.{start}
use Rattle.kr_model.specs.Run as model
use Rattle.kr_model.specs.Serial.{IsSerialRun}
use Rattle.kr_table.specs.declared.table.Table.{Table}
use Rattle.kr_table.specs.Tables.{TableData, protocol_of}
use Rattle.kr_table.specs.Shown.{data_of}
use Rattle.kr_table.specs.Faults.{Fault}
use Rattle.kr_example.proofs.serial.run_checked.Goals as goal

-- The table that was checked is the one that was read.
pub returns-clause-replies : goal.returns-clause-replies
returns-clause-replies c =
    let holds : TableData → Type 0 = λ t. c.in_ok-run.field-0.replies ≡ model.replies_of (model.run (protocol_of t) (start c.args.opening.now) c.args.events.now).history in
    let of_table : holds (data_of c.in_ok-table.table.parts) = subst (λ (q : Table). holds (data_of q.parts)) c.in_ok-checked.ensures.ok c.in_ok-run.ensures.ran.replies in
    subst (λ (r : Result TableData Fault). IfOk r holds) (sym c.in_ok-table.ensures.reads) of_table

pub returns-clause-serial_run : goal.returns-clause-serial_run
returns-clause-serial_run c =
    let holds : TableData → Type 0 = λ t. IsSerialRun c.args.opening.now (model.run (protocol_of t) (start c.args.opening.now) c.args.events.now) in
    let of_table : holds (data_of c.in_ok-table.table.parts) = subst (λ (q : Table). holds (data_of q.parts)) c.in_ok-checked.ensures.ok c.in_ok-run.ensures.serial_run in
    subst (λ (r : Result TableData Fault). IfOk r holds) (sym c.in_ok-table.ensures.reads) of_table
