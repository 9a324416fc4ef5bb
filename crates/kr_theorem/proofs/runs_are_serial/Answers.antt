use Rattle.kr_theorem.proofs.run.Runs.{runs_are_serial}
use Rattle.kr_theorem.proofs.runs_are_serial.Goals as goal

pub returns : goal.returns
returns c = runs_are_serial
