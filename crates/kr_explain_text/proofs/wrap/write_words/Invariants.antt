-- the words so far are in lines behind what was there
use Rattle.std.proofs.Common.{◌≡◌, ◌<◌, [], true, false, length, map, string_bytes}
use Rattle.std.specs.List.{join_with_byte}
use Rattle.kr_explain_text.specs.Lines.{Adds, AreLines}
use Rattle.kr_explain_text.proofs.wrap.write_words.Given as goal

abbrev pub invariant-loop-word : goal.invariant-loop-word
invariant-loop-word l = record {
  added : Adds (AreLines l.hang (join_with_byte 32 (map (λ w. w.now) l.yielded))) (string_bytes l.initial.out) (string_bytes l.out);
  none : l.is_first ≡ true → l.yielded ≡ [];
  some : l.is_first ≡ false → 0 < length l.yielded;
}
