use Rattle.std.proofs.Common.{arith, rules}
use Rattle.std.proofs.lemmas.Grind.{common_steps}
use Rattle.kr_machine.proofs.stepper.Stepper.ready.Goals as goal

pub end-requires-clause-allowed : goal.end-requires-clause-allowed
end-requires-clause-allowed g c = grind (arith, common_steps)

pub returns-in-Touch-clause-refusal : goal.returns-in-Touch-clause-refusal
returns-in-Touch-clause-refusal g c = grind (arith, common_steps)

pub returns-in-Some-clause-granted : goal.returns-in-Some-clause-granted
returns-in-Some-clause-granted g c = grind (arith, common_steps)

pub returns-in-Some-clause-waits : goal.returns-in-Some-clause-waits
returns-in-Some-clause-waits g c = grind (arith, common_steps)

pub returns-in-Some-clause-allowed : goal.returns-in-Some-clause-allowed
returns-in-Some-clause-allowed g c = grind (arith, common_steps)

pub returns-in-End-clause-allowed : goal.returns-in-End-clause-allowed
returns-in-End-clause-allowed g c = search rules

pub returns-in-Touch-clause-allowed : goal.returns-in-Touch-clause-allowed
returns-in-Touch-clause-allowed g c = search rules
