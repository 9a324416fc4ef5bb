use Rattle.kr_theorem.proofs.safe.Worked.{requests_nothing-unsafe, miss_at_once-unsafe}
use Rattle.kr_theorem.proofs.worked_unsafe.Goals as goal

pub returns-clause-nothing : goal.returns-clause-nothing
returns-clause-nothing c = requests_nothing-unsafe

pub returns-clause-miss : goal.returns-clause-miss
returns-clause-miss c = miss_at_once-unsafe
