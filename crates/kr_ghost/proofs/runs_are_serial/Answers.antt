use Rattle.kr_ghost.proofs.AllCases.{covered_runs_are_serial}
use Rattle.kr_ghost.proofs.runs_are_serial.Goals as goal

pub returns : goal.returns
returns c = covered_runs_are_serial
