use Rattle.kr_alike.proofs.Runs.{alike_are_serial}
use Rattle.kr_alike.proofs.laws.alike_are_serial.Goals as goal

pub returns : goal.returns
returns c = alike_are_serial
