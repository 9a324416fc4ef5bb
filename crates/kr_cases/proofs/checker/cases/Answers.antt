use Rattle.std.proofs.Common.{◌∙◌, ap₂}
use Rattle.kr_model.specs.Covers.{case_count}
use Rattle.kr_model.proofs.CaseCount.{length-cases}
use Rattle.kr_cases.proofs.checker.cases.Goals as goal

pub returns-then-updates : goal.returns-then-updates
returns-then-updates c = λ p e f. length-cases p ∙ ap₂ case_count e (f ∙ c.if-updates.true)

pub returns-else-updates : goal.returns-else-updates
returns-else-updates c = λ p e f. length-cases p ∙ ap₂ case_count e (f ∙ c.if-updates.false)
