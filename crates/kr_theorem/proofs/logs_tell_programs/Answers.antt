use Rattle.kr_model.proofs.LogLaws.{log_of_steps}
use Rattle.kr_theorem.proofs.logs_tell_programs.Goals as goal

pub returns-clause-committed : goal.returns-clause-committed
returns-clause-committed c = λ p opening h s are. let k = log_of_steps p opening h s are in k.committed

pub returns-clause-unfinished : goal.returns-clause-unfinished
returns-clause-unfinished c = λ p opening h s are. let k = log_of_steps p opening h s are in k.unfinished
