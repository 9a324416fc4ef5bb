use Rattle.std.proofs.Common.{◌≡◌, ◌++◌, drop, map, string_bytes}
use Rattle.serde_json.specs.Data.{array, string}
use Rattle.serde_json.specs.View.{items_of}
use Rattle.serde_json.specs.Written.{items_text, compact_text}
use Rattle.kr_trace_lines.proofs.report.write_texts.Given as goal

-- what is written, then the text of the rest, is the whole
abbrev pub invariant-loop-text : goal.invariant-loop-text
invariant-loop-text l = string_bytes l.out ++ items_text l.later (items_of (map string (map string_bytes (drop l.text-index l.texts))))
    ≡ string_bytes l.fn.out ++ compact_text (array (items_of (map string (map string_bytes l.texts))))
