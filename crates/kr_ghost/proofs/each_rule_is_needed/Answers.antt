use Rattle.kr_ghost.proofs.Needed as needed
use Rattle.kr_ghost.proofs.each_rule_is_needed.Goals as goal

pub returns : goal.returns
returns c = needed.each_rule_is_needed
