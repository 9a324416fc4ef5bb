use Rattle.std.proofs.Common.{rules}
use Rattle.kr_machine.proofs.reserve.reserve.Goals as goal

pub returns-in-Ok-clause-ok : goal.returns-in-Ok-clause-ok
returns-in-Ok-clause-ok g c = search rules
