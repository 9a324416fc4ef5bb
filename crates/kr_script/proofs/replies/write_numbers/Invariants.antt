use Rattle.std.proofs.Common.{◌≡◌, ◌++◌, drop, map, string_bytes}
use Rattle.serde_json.specs.View.{items_of}
use Rattle.serde_json.specs.Written.{items_text, compact_text}
use Rattle.kr_script.specs.Json.{whole}
use Rattle.kr_script.specs.Replies.{numbers_data}
use Rattle.kr_script.proofs.replies.write_numbers.Given as goal

-- what is written, then the text of the rest, is the whole
abbrev pub invariant-loop-number : goal.invariant-loop-number
invariant-loop-number l = string_bytes l.out ++ items_text l.later (items_of (map whole (drop l.number-index l.numbers))) ≡ string_bytes l.fn.out ++ compact_text (numbers_data l.numbers)
