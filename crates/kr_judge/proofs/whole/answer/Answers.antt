use Rattle.std.proofs.Common.{rules}
use Rattle.kr_judge.proofs.whole.answer.Goals as goal

pub returns-in-Delete : goal.returns-in-Delete
returns-in-Delete c = search rules
