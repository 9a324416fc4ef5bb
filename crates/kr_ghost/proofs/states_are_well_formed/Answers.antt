use Rattle.kr_ghost.proofs.FormedRuns.{run_is_well_formed}
use Rattle.kr_ghost.proofs.states_are_well_formed.Goals as goal

pub returns : goal.returns
returns c = run_is_well_formed
