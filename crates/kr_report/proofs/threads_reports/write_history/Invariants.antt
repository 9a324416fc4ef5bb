use Rattle.std.proofs.Common.{◌≡◌, ◌++◌, drop, map, string_bytes}
use Rattle.serde_json.specs.View.{items_of}
use Rattle.serde_json.specs.Written.{items_text, compact_text}
use Rattle.kr_report.specs.ThreadsReport.{history_data, answered_data}
use Rattle.kr_report.proofs.threads_reports.write_history.Given as goal

-- what is written, then the text of the rest, is the whole
abbrev pub invariant-loop-answered : goal.invariant-loop-answered
invariant-loop-answered l = string_bytes l.out ++ items_text l.later (items_of (map answered_data (drop l.answered-index l.history))) ≡ string_bytes l.fn.out ++ compact_text (history_data l.history)
