use Rattle.std.proofs.Common.{arith, rules, tests}
use Rattle.std.proofs.lemmas.Grind.{common_steps}
use Rattle.toml.specs.declared.value.Value.TheFolds.{the_lemmas}
use Rattle.kr_table.proofs.writing.entries.texts_of.Goals as goal

pub loop-name-preserved : goal.loop-name-preserved
loop-name-preserved c = search (tests, rules, the_lemmas, common_steps)

pub loop-name-init : goal.loop-name-init
loop-name-init c = grind (arith, common_steps)

pub returns : goal.returns
returns c = search (tests, rules, the_lemmas, common_steps)
