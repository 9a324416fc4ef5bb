use Rattle.std.proofs.Common.{◌++◌, ap, ◌∙◌, codes, string_bytes}
use Rattle.serde_json.specs.Written.{compact_text}
use Rattle.serde_json.proofs.OnLiterals.{serde_json_on_literals}
use Rattle.kr_script.specs.Pairs.{pairs_data}
use Rattle.kr_report.specs.Report.{numbers_data, verdict_data}
use Rattle.kr_report.specs.ThreadsReport.{faults_data, history_data}
use Rattle.kr_report.proofs.Writes.{laid}
use Rattle.kr_report.proofs.threads_reports.report_parts.Goals as goal

pub returns : goal.returns
unfolding serde_json_on_literals
returns c =
    record {
      text = laid
          (string_bytes c.push_str.new.self)
          (string_bytes c.write_faults.new.out)
          (string_bytes c.push_str-2.new.self)
          (string_bytes c.write_history.new.out)
          (string_bytes c.push_str-3.new.self)
          (string_bytes c.write_pairs.new.out)
          (string_bytes c.push_str-4.new.self)
          (string_bytes c.write_numbers.new.out)
          (string_bytes c.push_str-5.new.self)
          (string_bytes c.write_verdict.new.out)
          (string_bytes c.push_str-6.new.self)
          (codes "{\"faults\":")
          (compact_text (faults_data c.args.faults.now))
          (codes ",\"history\":")
          (compact_text (history_data c.args.history.now))
          (codes ",\"index\":")
          (compact_text (pairs_data c.args.index.now))
          (codes ",\"unfinished\":")
          (compact_text (numbers_data c.args.unfinished.now))
          (codes ",\"verdict\":")
          (compact_text (verdict_data c.args.verdict.now))
          (codes "}")
          (c.in_ok-push_str.ensures.bytes ∙ ap (λ l. l ++ codes "{\"faults\":") c.new-out.ensures.bytes)
          c.in_ok-write_faults.ensures
          c.in_ok-push_str-2.ensures.bytes
          c.in_ok-write_history.ensures
          c.in_ok-push_str-3.ensures.bytes
          c.in_ok-write_pairs.ensures
          c.in_ok-push_str-4.ensures.bytes
          c.in_ok-write_numbers.ensures
          c.in_ok-push_str-5.ensures.bytes
          c.in_ok-write_verdict.ensures
          c.in_ok-push_str-6.ensures.bytes;
    }
