use Rattle.kr_theorem.proofs.Holes.{fixed_or_safe}
use Rattle.kr_theorem.proofs.fixed_or_safe.Goals as goal

pub returns : goal.returns
returns c = fixed_or_safe
