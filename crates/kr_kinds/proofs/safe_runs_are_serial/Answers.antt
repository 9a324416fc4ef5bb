use Rattle.kr_kinds.proofs.Serial as serial
use Rattle.kr_kinds.proofs.safe_runs_are_serial.Goals as goal

pub returns : goal.returns
returns c = serial.safe_runs_are_serial
