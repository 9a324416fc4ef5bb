use Rattle.std.proofs.Common.{arith}
use Rattle.std.proofs.lemmas.Grind.{common_steps}
use Rattle.kr_protocol.proofs.range_key.RangeKeyProtocol.ask.Goals as goal

pub returns-in-Insert-Next : goal.returns-in-Insert-Next
returns-in-Insert-Next c = grind (arith, common_steps)
