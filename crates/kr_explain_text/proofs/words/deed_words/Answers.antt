use Rattle.std.proofs.Common.{arith}
use Rattle.std.proofs.lemmas.Grind.{common_steps}
use Rattle.kr_explain_text.proofs.words.deed_words.Goals as goal

pub returns-in-Update : goal.returns-in-Update
returns-in-Update c = grind (arith, common_steps)
