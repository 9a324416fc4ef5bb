use Rattle.std.specs.Prelude.{IsTrue, string_bytes}
use Rattle.kr_cli.specs.Endings.{is_output}
use Rattle.kr_cli_tables.proofs.Caused.{caused}
use Rattle.kr_cli_tables.proofs.ExplainEnded.{no_script}
use Rattle.kr_cli_tables.proofs.ExplainWritten.{script_written}
use Rattle.kr_cli_tables.proofs.explanations.explaining.print_script.Goals as goal

pub returns-in_ok-what-in-None-clause-err : goal.returns-in_ok-what-in-None-clause-err
returns-in_ok-what-in-None-clause-err g c = λ p explained.
    no_script p c.args.table.now c.as_str-in-None.result.now (string_bytes c.in_ok-what-in-None.what) c.args.number c.args.explanation.now c.in_ok-line.field-0 c.told.result explained c.in_ok-line.ensures c.in-None.is c.as_str-in-None.ensures.value c.in_ok-what-in-None.ensures.ok c.told.ensures.line

pub returns-in_ok-print-in-Some-clause-script : goal.returns-in_ok-print-in-Some-clause-script
returns-in_ok-print-in-Some-clause-script g c = λ p explained.
    script_written p c.args.number c.args.explanation.now c.in_ok-line.field-0 c.in-Some.line c.as_str.result.now (g.W.Sink.taken c.args.out.now) (g.W.Sink.taken c.print.new.out) explained c.in_ok-line.ensures c.in-Some.is c.as_str.ensures.value c.in_ok-print-in-Some.ensures.ok

pub returns-in_err-print-in-Some-clause-cause : goal.returns-in_err-print-in-Some-clause-cause
returns-in_err-print-in-Some-clause-cause g c = caused c.from_residual-in_err-print-in-Some.result (λ e. IsTrue (is_output e)) _ c.in_err-print-in-Some.ensures.cause
