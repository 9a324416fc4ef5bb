use Rattle.kr_theorem.proofs.Argued.{next, gone}
use Rattle.kr_theorem.proofs.neither_safe_nor_ordered.Goals as goal

pub returns-clause-next : goal.returns-clause-next
returns-clause-next c = next

pub returns-clause-gone : goal.returns-clause-gone
returns-clause-gone c = gone
