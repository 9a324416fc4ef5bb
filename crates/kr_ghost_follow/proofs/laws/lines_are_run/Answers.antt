use Rattle.kr_ghost_follow.proofs.RunLaws.{leads_run}
use Rattle.kr_ghost_follow.proofs.laws.lines_are_run.Goals as goal

pub returns : goal.returns
returns c = leads_run
