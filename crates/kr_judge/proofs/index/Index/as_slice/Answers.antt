use Rattle.std.proofs.Common.{rules}
use Rattle.kr_judge.proofs.index.Index.as_slice.Goals as goal

pub returns-clause-pairs : goal.returns-clause-pairs
returns-clause-pairs c = search rules
