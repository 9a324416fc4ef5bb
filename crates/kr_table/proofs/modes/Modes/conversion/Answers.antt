use Rattle.std.proofs.Common.{arith, rules}
use Rattle.std.proofs.lemmas.Grind.{common_steps}
use Rattle.kr_table.proofs.modes.Modes.conversion.Goals as goal

pub deref-requires : goal.deref-requires
deref-requires c κs = search rules

pub returns : goal.returns
returns c = grind (arith, common_steps)
