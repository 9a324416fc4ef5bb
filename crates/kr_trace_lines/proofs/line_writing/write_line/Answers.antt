use Rattle.std.proofs.Common.{◌++◌, ◌∙◌, ap, string_bytes}
use Rattle.std.proofs.lemmas.Str.{IsUtf8-string_bytes}
use Rattle.serde_json.specs.Written.{compact_text}
use Rattle.kr_trace_lines.specs.Steps.{step_data}
use Rattle.kr_trace_lines.proofs.StepReads.{step_line_reads}
use Rattle.kr_trace_lines.proofs.line_writing.write_line.Goals as goal

pub returns-clause-text : goal.returns-clause-text
returns-clause-text c = c.in_ok-write_both.ensures ∙ ap (λ l. l ++ compact_text (step_data c.args.event c.args.observed.now)) c.new-out.ensures.bytes

pub returns-clause-reads : goal.returns-clause-reads
returns-clause-reads c =
    λ can. step_line_reads c.args.event c.args.observed.now (string_bytes c.write_both.new.out) c.lemma_event_fits.ensures c.lemma_observed_fits.ensures can
    (IsUtf8-string_bytes c.write_both.new.out) (returns-clause-text c)
