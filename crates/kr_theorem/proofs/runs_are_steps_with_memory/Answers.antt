use Rattle.kr_model.proofs.RunLaws.{run_of_steps, steps_of_run, memory_of_run}
use Rattle.kr_theorem.proofs.runs_are_steps_with_memory.Goals as goal

pub returns-clause-run : goal.returns-clause-run
returns-clause-run c = run_of_steps

pub returns-clause-steps : goal.returns-clause-steps
returns-clause-steps c = steps_of_run

pub returns-clause-memory : goal.returns-clause-memory
returns-clause-memory c = memory_of_run
