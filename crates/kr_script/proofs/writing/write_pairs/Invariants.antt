use Rattle.std.proofs.Common.{◌≡◌, ◌++◌, drop, map, string_bytes}
use Rattle.serde_json.specs.View.{items_of}
use Rattle.serde_json.specs.Written.{items_text, compact_text}
use Rattle.kr_script.specs.Pairs.{pairs_data, pair_data}
use Rattle.kr_script.proofs.writing.write_pairs.Given as goal

-- what is written, then the text of the rest, is the whole
abbrev pub invariant-loop-pair : goal.invariant-loop-pair
invariant-loop-pair l = string_bytes l.out ++ items_text l.later (items_of (map pair_data (drop l.pair-index l.pairs))) ≡ string_bytes l.fn.out ++ compact_text (pairs_data l.pairs)
