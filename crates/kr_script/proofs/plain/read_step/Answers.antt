use Rattle.std.proofs.Common.{subst}
use Rattle.serde_json.specs.Data.{string}
use Rattle.kr_script.specs.Tokens.{IsNext}
use Rattle.kr_script.proofs.plain.read_step.Goals as goal

pub returns-clause-next : goal.returns-clause-next
returns-clause-next c = (
  c.read_word.new.reader,
  subst (λ s. IsNext 124 c.args.reader.now (string s) c.read_word.new.reader) c.in_ok-op.ensures.word (c.in_ok-word.ensures 124),
  c.in_ok-op.ensures.next,
)
