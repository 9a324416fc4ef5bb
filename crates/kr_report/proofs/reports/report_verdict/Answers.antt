use Rattle.std.proofs.Common.{◌++◌, ap, ◌∙◌, codes, string_bytes}
use Rattle.serde_json.specs.Data.{string}
use Rattle.serde_json.specs.Written.{compact_text}
use Rattle.serde_json.proofs.OnLiterals.{serde_json_on_literals}
use Rattle.kr_report.specs.Report.{verdict_data}
use Rattle.kr_report.proofs.Writes.{laid_by_five}
use Rattle.kr_report.proofs.reports.report_verdict.Goals as goal

pub returns : goal.returns
unfolding serde_json_on_literals
returns c = record {
  text = laid_by_five
      (string_bytes c.push_str.new.self)
      (string_bytes c.push_str-2.new.self)
      (string_bytes c.push_str-3.new.self)
      (string_bytes c.write_verdict.new.out)
      (string_bytes c.push_str-4.new.self)
      (codes "{\"script\":")
      (compact_text (string c.args.script.now))
      (codes ",\"verdict\":")
      (compact_text (verdict_data c.args.verdict.now))
      (codes "}")
      (c.in_ok-push_str.ensures.bytes ∙ ap (λ l. l ++ codes "{\"script\":") c.new-out.ensures.bytes)
      (c.in_ok-push_str-2.ensures.bytes ∙ ap (λ l. string_bytes c.push_str.new.self ++ l) (c.as_str.ensures.value ∙ c.in_ok-name.ensures))
      c.in_ok-push_str-3.ensures.bytes
      c.in_ok-write_verdict.ensures
      c.in_ok-push_str-4.ensures.bytes;
}
