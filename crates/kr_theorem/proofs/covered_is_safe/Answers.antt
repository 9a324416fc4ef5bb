use Rattle.kr_theorem.proofs.safe.AllCases.{covered_is_safe}
use Rattle.kr_theorem.proofs.covered_is_safe.Goals as goal

pub returns : goal.returns
returns c = covered_is_safe
