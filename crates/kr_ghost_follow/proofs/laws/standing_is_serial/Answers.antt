use Rattle.kr_ghost_follow.proofs.SerialRuns.{serial_run, covered_run}
use Rattle.kr_ghost_follow.proofs.laws.standing_is_serial.Goals as goal

pub returns-clause-safe : goal.returns-clause-safe
returns-clause-safe c = serial_run

pub returns-clause-covered : goal.returns-clause-covered
returns-clause-covered c = covered_run
