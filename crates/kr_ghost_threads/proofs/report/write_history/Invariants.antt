use Rattle.std.proofs.Common.{◌≡◌, ◌++◌, drop, map, string_bytes}
use Rattle.serde_json.specs.View.{items_of}
use Rattle.serde_json.specs.Written.{items_text, compact_text}
use Rattle.kr_ghost_threads.specs.Report.{history_data, made_data}
use Rattle.kr_ghost_threads.proofs.report.write_history.Given as goal

-- what is written, then the text of the rest, is the whole
abbrev pub invariant-loop-made : goal.invariant-loop-made
invariant-loop-made l = string_bytes l.out ++ items_text l.later (items_of (map made_data (drop l.made-index l.history))) ≡ string_bytes l.fn.out ++ compact_text (history_data l.history)
