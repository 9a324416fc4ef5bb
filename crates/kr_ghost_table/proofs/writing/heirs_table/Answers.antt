use Rattle.std.proofs.Common.{arith, rules, tests}
use Rattle.std.proofs.lemmas.Grind.{common_steps}
use Rattle.toml.specs.declared.value.Value.TheFolds.{the_lemmas}
use Rattle.kr_ghost_table.proofs.writing.heirs_table.Goals as goal

pub loop-i-preserved : goal.loop-i-preserved
loop-i-preserved c = grind (arith, common_steps)

pub loop-i-init : goal.loop-i-init
loop-i-init c = grind (arith, common_steps)

pub returns : goal.returns
returns c = search (tests, rules, the_lemmas, common_steps)
