use Rattle.kr_kinds.proofs.Serial as serial
use Rattle.kr_kinds.proofs.covered_is_safe.Goals as goal

pub returns : goal.returns
returns c = serial.covered_is_safe
