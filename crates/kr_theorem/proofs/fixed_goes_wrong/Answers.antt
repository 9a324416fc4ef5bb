use Rattle.kr_theorem.specs.Schedules.{opening, schedule}
use Rattle.kr_theorem.proofs.Fixed.{fixed_goes_wrong}
use Rattle.kr_theorem.proofs.fixed_goes_wrong.Goals as goal

pub returns-clause-by_schedule : goal.returns-clause-by_schedule
returns-clause-by_schedule c = fixed_goes_wrong

pub returns-clause-by_some : goal.returns-clause-by_some
returns-clause-by_some c = λ p laws hole. (opening hole, (schedule hole, fixed_goes_wrong p laws hole))
