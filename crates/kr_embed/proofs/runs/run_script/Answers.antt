use Rattle.std.proofs.Common.{◌↔◌, IfOk, IsTrue, List, subst}
use Rattle.kr_model.specs.declared.Event.{Event}
use Rattle.kr_model.specs.declared.Program.{Program}
use Rattle.kr_model.specs.Map.{Map}
use Rattle.kr_model.specs.State.{start}
use Rattle.kr_model.specs.Run.{run, programs}
use Rattle.kr_model.specs.Serial.{AreSerial}
use Rattle.kr_cli.specs.Tables.{table_of}
use Rattle.kr_embed.proofs.runs.run_script.Goals as goal

-- The run that is judged is that of the script.
pub returns-clause-serial : goal.returns-clause-serial
returns-clause-serial c =
    let p = table_of c.args.table.now in
    let holds : Map → List Program → Type 0 = λ o ps. IfOk c.report_of.result (λ told. IsTrue told.0 ↔ AreSerial o ps) in
    let of_run : Map → List Event → Type 0 = λ o es. holds o (programs (run p (start o) es).history) in
    subst (λ (es : List Event). of_run c.args.script.now.opening es) c.steps.ensures.events
    (subst (λ (o : Map). of_run o c.steps.result.now) c.opening.ensures.pairs
    (subst (λ (ps : List Program). holds c.opening.result.now ps) c.in_ok-ran.ensures.ran.programs
    (subst (λ (o : Map). holds o c.in_ok-ran.ran.programs) c.in_ok-ran.ensures.ran.opening_is c.report_of.ensures.serial)))
