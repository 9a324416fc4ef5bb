-- the pairs so far are written, each behind a comma
use Rattle.std.proofs.Common.{◌≡◌, ◌++◌, flat_map, take, string_bytes}
use Rattle.kr_explain_text.specs.Spoken.{pair_behind}
use Rattle.kr_explain_text.proofs.spoken.pairs_text.Given as goal

abbrev pub invariant-loop-key : goal.invariant-loop-key
invariant-loop-key l = string_bytes l.out ≡ string_bytes l.initial.out ++ flat_map pair_behind (take l.key-index l.others)
