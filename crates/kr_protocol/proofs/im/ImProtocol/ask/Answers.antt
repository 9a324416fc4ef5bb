use Rattle.std.proofs.Common.{arith}
use Rattle.std.proofs.lemmas.Grind.{common_steps}
use Rattle.kr_protocol.proofs.im.ImProtocol.ask.Goals as goal

pub returns-in-Insert-Current : goal.returns-in-Insert-Current
returns-in-Insert-Current c = grind (arith, common_steps)
