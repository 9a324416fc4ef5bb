use Rattle.std.proofs.Common.{arith}
use Rattle.std.proofs.lemmas.Grind.{common_steps}
use Rattle.kr_cli_tables.proofs.pages.words.read_words.Goals as goal

pub returns-in_default-clause-err : goal.returns-in_default-clause-err
returns-in_default-clause-err c = grind (arith, common_steps)

pub returns-in-len1-clause-asked : goal.returns-in-len1-clause-asked
returns-in-len1-clause-asked c = grind (arith, common_steps)

pub returns-in_default-clause-form : goal.returns-in_default-clause-form
returns-in_default-clause-form c = grind (arith, common_steps)

pub returns-in-len2-clause-words : goal.returns-in-len2-clause-words
returns-in-len2-clause-words c = grind (arith, common_steps)

pub returns-in-len2-clause-asked : goal.returns-in-len2-clause-asked
returns-in-len2-clause-asked c = grind (arith, common_steps)
