use Rattle.std.proofs.Common.{arith}
use Rattle.std.proofs.lemmas.Grind.{common_steps}
use Rattle.kr_threads.proofs.fault.RunFaultFromCloseFault.from.Goals as goal

pub returns-in-Memory : goal.returns-in-Memory
returns-in-Memory c = grind (arith, common_steps)
