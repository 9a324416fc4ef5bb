use Rattle.std.proofs.Common.{ap, ◌∙◌, ◌++◌, ◌∷◌, [], codes, decimal, string_bytes}
use Rattle.serde_json.specs.Written.{compact_text}
use Rattle.kr_trace_lines.specs.Report.{verdict_data}
use Rattle.kr_trace_lines.proofs.Texts.{laid_by_three, judged_is}
use Rattle.kr_trace_lines.proofs.report.write_judged.Goals as goal

pub returns : goal.returns
returns c =
    laid_by_three []
    (string_bytes c.push_str.new.self)
    (string_bytes c.write_number.new.out)
    (string_bytes c.write_end.new.out)
    (codes "{\"part\":")
    (decimal c.args.part)
    (codes ",\"verdict\":" ++ (compact_text (verdict_data c.args.verdict.now) ++ 125 ∷ []))
    (c.in_ok-push_str.ensures.bytes ∙ ap (λ l. l ++ codes "{\"part\":") c.new-out.ensures.bytes)
    c.in_ok-write_number.ensures
    c.in_ok-write_end.ensures
    ∙ judged_is c.args.part c.args.verdict.now
