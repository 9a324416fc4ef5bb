use Rattle.std.proofs.Common.{rules}
use Rattle.std.proofs.lemmas.Result.{IfOk-weaker}
use Rattle.std.specs.BTreeMap as tree
use Rattle.std.specs.Ordering.{nat_cmp}
use Rattle.kr_model.proofs.Trees.{made_of}
use Rattle.kr_judge.proofs.whole.map_of.Goals as goal

pub returns : goal.returns
returns c = IfOk-weaker c.collect.result (tree.IsFromIterResult nat_cmp c.args.pairs.now) _ (λ n h. made_of c.args.pairs.now n c.requires h) (search rules)
