use Rattle.std.proofs.Common.{arith}
use Rattle.std.proofs.lemmas.Grind.{common_steps}
use Rattle.kr_records.proofs.closing.is_fitting.Goals as goal

pub returns-then-not-note-clause-fits : goal.returns-then-not-note-clause-fits
returns-then-not-note-clause-fits g c = grind (arith, common_steps)

pub returns-clause-fits : goal.returns-clause-fits
returns-clause-fits g c = grind (arith, common_steps)

pub returns-clause-stands : goal.returns-clause-stands
returns-clause-stands g c = λ counts. grind (arith, common_steps)
