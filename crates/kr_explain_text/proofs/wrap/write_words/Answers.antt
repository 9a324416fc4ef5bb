use Rattle.std.proofs.Common.{string_bytes, arith}
use Rattle.std.proofs.lemmas.List.{length_push}
use Rattle.kr_explain_text.proofs.Lined.{added_word}
use Rattle.kr_explain_text.proofs.wrap.write_words.Goals as goal

pub loop-word-preserved : goal.loop-word-preserved
loop-word-preserved c = record {
  added = added_word c.args.hang c.loop-word.yielded c.in-Some.word c.loop-word.is_first (string_bytes c.args.out.now) (string_bytes c.loop-word.out) (string_bytes c.write_gap.new.out) (string_bytes c.push_str.new.self) c.loop-word.invariant.none c.loop-word.invariant.some c.loop-word.invariant.added c.in_ok-write_gap.ensures c.in_ok-push_str.ensures.bytes;
  none = λ e. absurd (cc);
  some = λ e. omega (arith, length_push c.loop-word.yielded c.in-Some.word);
}
