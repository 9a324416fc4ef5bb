use Rattle.kr_ghost.proofs.Runs as runs
use Rattle.kr_ghost.proofs.safe_runs_are_serial.Goals as goal

pub returns : goal.returns
returns c = runs.safe_runs_are_serial
