use Rattle.std.proofs.Common.{arith}
use Rattle.std.proofs.lemmas.Grind.{common_steps}
use Rattle.kr_table.proofs.writing.entries.conversions.Goals as goal

pub loop-held-preserved : goal.loop-held-preserved
loop-held-preserved c = grind (arith, common_steps)

pub loop-held-init : goal.loop-held-init
loop-held-init c = grind (arith, common_steps)

pub returns : goal.returns
returns c = grind (arith, common_steps)

pub slice_bounds-line-end : goal.slice_bounds-line-end
slice_bounds-line-end c = grind (arith, common_steps)

pub pairs-requires : goal.pairs-requires
pairs-requires c = grind (arith, common_steps)

pub slice_bounds-rest-start : goal.slice_bounds-rest-start
slice_bounds-rest-start c = grind (arith, common_steps)
