use Rattle.kr_ghost_follow.proofs.RunLaws.{agrees_fit}
use Rattle.kr_ghost_follow.proofs.laws.agreeing_fits.Goals as goal

pub returns : goal.returns
returns c = agrees_fit
