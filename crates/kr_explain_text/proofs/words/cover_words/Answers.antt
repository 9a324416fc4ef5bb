use Rattle.std.proofs.Common.{arith}
use Rattle.std.proofs.lemmas.Grind.{common_steps}
use Rattle.kr_explain_text.proofs.words.cover_words.Goals as goal

pub returns-in-ReadGap : goal.returns-in-ReadGap
returns-in-ReadGap c = grind (arith, common_steps)
