use Rattle.kr_theorem.proofs.run.Needed.{each_rule_is_needed}
use Rattle.kr_theorem.proofs.each_rule_is_needed.Goals as goal

pub returns : goal.returns
returns c = each_rule_is_needed
