use Rattle.std.proofs.Common.{arith}
use Rattle.std.proofs.lemmas.Grind.{common_steps}
use Rattle.kr_table.proofs.writing.entries.compatibility.Goals as goal

pub loop-requested-preserved : goal.loop-requested-preserved
loop-requested-preserved c = grind (arith, common_steps)

pub loop-requested-init : goal.loop-requested-init
loop-requested-init c = grind (arith, common_steps)

pub returns : goal.returns
returns c = grind (arith, common_steps)

pub slice_bounds-line-end : goal.slice_bounds-line-end
slice_bounds-line-end c = grind (arith, common_steps)

pub chosen-requires : goal.chosen-requires
chosen-requires c = grind (arith, common_steps)

pub slice_bounds-rest-start : goal.slice_bounds-rest-start
slice_bounds-rest-start c = grind (arith, common_steps)
