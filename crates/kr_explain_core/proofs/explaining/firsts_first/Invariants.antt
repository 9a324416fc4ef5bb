-- each case so far is in one of the two lists
use Rattle.std.specs.Prelude.{◌++◌, take}
use Rattle.std.specs.List.Sorted.{IsPermutation}
use Rattle.kr_explain_core.proofs.explaining.firsts_first.Given as goal

abbrev pub invariant-loop-case : goal.invariant-loop-case
invariant-loop-case l = IsPermutation (take l.case-index l.cases) (l.firsts.items ++ l.others.items)
