use Rattle.std.proofs.Common.{arith}
use Rattle.std.proofs.lemmas.Grind.{common_steps}
use Rattle.kr_protocol.proofs.range_key.RangeKeyProtocol.name.Goals as goal

pub returns-in-5 : goal.returns-in-5
returns-in-5 c = grind (arith, common_steps)
