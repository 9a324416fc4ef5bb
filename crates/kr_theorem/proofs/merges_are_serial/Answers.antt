use Rattle.kr_theorem.specs.Passes.{IsMerging}
use Rattle.kr_theorem.proofs.run.Runs.{runs_of_are_serial}
use Rattle.kr_theorem.proofs.merges_are_serial.Goals as goal

pub returns : goal.returns
returns c = runs_of_are_serial IsMerging
