use Rattle.std.proofs.Common.{codes, string_bytes}
use Rattle.serde_json.specs.Written.{compact_text}
use Rattle.kr_script.specs.Pairs.{pairs_data}
use Rattle.kr_script.specs.Replies.{numbers_data}
use Rattle.kr_report.specs.Report.{verdict_data}
use Rattle.kr_report.specs.ThreadsReport.{faults_data}
use Rattle.kr_ghost_threads.specs.Report.{history_data}
use Rattle.serde_json.proofs.OnLiterals.{serde_json_on_literals}
use Rattle.kr_ghost_threads.proofs.Written.{laid_by_eleven}
use Rattle.kr_ghost_threads.proofs.report.write_ghost_threads.Goals as goal

-- each write put for what it left, from the last to the first
pub returns : goal.returns
unfolding serde_json_on_literals
returns c =
    rw (
      c.in_ok-push_str-6.ensures.bytes,
      c.in_ok-write_verdict.ensures,
      c.in_ok-push_str-5.ensures.bytes,
      c.in_ok-write_pairs.ensures,
      c.as_slice-2.ensures,
      c.in_ok-push_str-4.ensures.bytes,
      c.in_ok-write_history.ensures,
      c.deref-2.ensures.value,
      c.in_ok-push_str-3.ensures.bytes,
      c.in_ok-write_ghosts.ensures,
      c.as_slice.ensures,
      c.in_ok-push_str-2.ensures.bytes,
      c.in_ok-write_faults.ensures,
      c.deref.ensures.value,
      c.in_ok-push_str.ensures.bytes,
    ) (laid_by_eleven (string_bytes c.args.out.now) (codes "{\"faults\":") (compact_text (faults_data c.args.threaded.now.faults.items))
    (codes ",\"ghosts\":") (compact_text (numbers_data c.args.threaded.now.ghosts)) (codes ",\"history\":") (compact_text (history_data c.args.threaded.now.history.items))
    (codes ",\"index\":") (compact_text (pairs_data c.args.threaded.now.index)) (codes ",\"unfinished\":[],\"verdict\":") (compact_text (verdict_data c.args.verdict.now)) (codes "}"))
