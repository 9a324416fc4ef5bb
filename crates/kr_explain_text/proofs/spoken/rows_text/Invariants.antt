-- the rows so far are written
use Rattle.std.proofs.Common.{◌≡◌, ◌++◌, codes, flat_map, take, string_bytes}
use Rattle.kr_explain_text.specs.Spoken.{row_words}
use Rattle.kr_explain_text.proofs.spoken.rows_text.Given as goal

abbrev pub invariant-loop-key : goal.invariant-loop-key
invariant-loop-key l = string_bytes l.out ≡ codes "rows" ++ flat_map row_words (take l.key-index l.rows)
