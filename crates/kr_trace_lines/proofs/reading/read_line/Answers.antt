use Rattle.std.proofs.Common.{rules}
use Rattle.std.proofs.lemmas.Str.{is_utf8-from_IsUtf8}
use Rattle.kr_script.proofs.Firsts.{some_read}
use Rattle.kr_trace_lines.specs.Reading.{Gives, reading_line}
use Rattle.kr_trace_lines.proofs.RiseLaws.{given_rises}
use Rattle.kr_trace_lines.proofs.Values.{no_value}
use Rattle.kr_trace_lines.proofs.reading.read_line.Goals as goal

pub returns-in-Ok-clause-reads : goal.returns-in-Ok-clause-reads
returns-in-Ok-clause-reads c = rw (is_utf8-from_IsUtf8 _ c.in-Ok.ensures.ok.0, c.in-Ok.ensures.ok.1) c.line_of.ensures

pub returns-in-Ok-clause-rises : goal.returns-in-Ok-clause-rises
returns-in-Ok-clause-rises c =
    let is : Gives c.line_of.result (reading_line c.args.bytes.now) = rw (is_utf8-from_IsUtf8 _ c.in-Ok.ensures.ok.0, c.in-Ok.ensures.ok.1) c.line_of.ensures in
    given_rises c.args.bytes.now c.line_of.result is

pub returns-in-Err-2-clause-reads : goal.returns-in-Err-2-clause-reads
returns-in-Err-2-clause-reads c = λ _. no_value c.args.bytes.now (c.in-Err-2.ensures.err (search rules))

pub returns-in-Ok-clause-memory : goal.returns-in-Ok-clause-memory
returns-in-Ok-clause-memory c = λ h. some_read c.args.bytes.now _ c.in-Ok.ensures.ok.1
