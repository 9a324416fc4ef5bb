use Rattle.std.proofs.Common.{◌≡◌, ◌++◌, drop, map, string_bytes}
use Rattle.serde_json.specs.View.{items_of}
use Rattle.serde_json.specs.Written.{items_text, compact_text}
use Rattle.kr_script.specs.Json.{whole}
use Rattle.kr_script.specs.Replies.{numbers_data}
use Rattle.kr_ghost_report.proofs.answers.write_ghosts.Given as goal

-- what is written, then the text of the rest, is the whole
abbrev pub invariant-loop-key : goal.invariant-loop-key
invariant-loop-key l = string_bytes l.out ++ items_text l.later (items_of (map whole (drop l.key-index l.ghosts))) ≡ string_bytes l.fn.out ++ compact_text (numbers_data l.ghosts)
