use Rattle.std.proofs.Common.{arith}
use Rattle.std.proofs.lemmas.Grind.{common_steps}
use Rattle.kr_decide.proofs.moves.may_ask.Goals as goal

pub returns-in-FetchHit-Current : goal.returns-in-FetchHit-Current
returns-in-FetchHit-Current g c = grind (arith, common_steps)
