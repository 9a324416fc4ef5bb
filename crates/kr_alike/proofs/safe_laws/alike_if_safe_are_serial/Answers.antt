use Rattle.kr_alike.proofs.SafeRuns.{alike_are_serial}
use Rattle.kr_alike.proofs.safe_laws.alike_if_safe_are_serial.Goals as goal

pub returns : goal.returns
returns c = alike_are_serial
