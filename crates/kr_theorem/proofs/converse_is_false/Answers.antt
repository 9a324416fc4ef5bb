use Rattle.kr_theorem.proofs.unreached.Unsafe.{lawful, not_safe}
use Rattle.kr_theorem.proofs.unreached.Same.{runs}
use Rattle.kr_theorem.proofs.converse_is_false.Goals as goal

pub returns : goal.returns
returns c = (lawful, not_safe, runs)
