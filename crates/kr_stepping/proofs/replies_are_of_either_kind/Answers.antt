use Rattle.kr_stepping.proofs.Replied.{of_steps, with_ghosts}
use Rattle.kr_stepping.proofs.replies_are_of_either_kind.Goals as goal

pub returns-clause-gone : goal.returns-clause-gone
returns-clause-gone c = of_steps

pub returns-clause-leaves : goal.returns-clause-leaves
returns-clause-leaves c = with_ghosts
