use Rattle.kr_ghost.proofs.AllCases as all
use Rattle.kr_ghost.proofs.covered_is_safe.Goals as goal

pub returns : goal.returns
returns c = all.covered_is_safe
