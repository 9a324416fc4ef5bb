use Rattle.kr_theorem.proofs.run.Runs.{safe_runs_are_serial}
use Rattle.kr_theorem.proofs.safe_runs_are_serial.Goals as goal

pub returns : goal.returns
returns c = safe_runs_are_serial
