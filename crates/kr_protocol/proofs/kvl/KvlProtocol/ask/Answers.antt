use Rattle.std.proofs.Common.{arith}
use Rattle.std.proofs.lemmas.Grind.{common_steps}
use Rattle.kr_protocol.proofs.kvl.KvlProtocol.ask.Goals as goal

pub returns-in_default-own_next : goal.returns-in_default-own_next
returns-in_default-own_next c = grind (arith, common_steps)
