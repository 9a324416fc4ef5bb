use Rattle.std.proofs.Common.{◌≡◌, ◌++◌, drop, map, string_bytes}
use Rattle.serde_json.specs.View.{items_of}
use Rattle.serde_json.specs.Written.{items_text, compact_text}
use Rattle.kr_ghost_report.specs.RunReport.{answer_data, answers_data}
use Rattle.kr_ghost_report.proofs.answers.write_answers.Given as goal

-- what is written, then the text of the rest, is the whole
abbrev pub invariant-loop-answer : goal.invariant-loop-answer
invariant-loop-answer l = string_bytes l.out ++ items_text l.later (items_of (map answer_data (drop l.answer-index l.answers))) ≡ string_bytes l.fn.out ++ compact_text (answers_data l.answers)
