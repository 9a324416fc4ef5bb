use Rattle.std.proofs.Common.{arith}
use Rattle.std.proofs.lemmas.Grind.{common_steps}
use Rattle.kr_protocol.proofs.kvl_update.KvlUpdateProtocol.ask.Goals as goal

pub returns-in-Update-Current : goal.returns-in-Update-Current
returns-in-Update-Current c = grind (arith, common_steps)
