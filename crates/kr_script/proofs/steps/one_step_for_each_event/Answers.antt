use Rattle.kr_script.proofs.Written.{is_step, reads_back}
use Rattle.kr_script.proofs.steps.one_step_for_each_event.Goals as goal

pub returns : goal.returns
returns c = λ two d e. (is_step two d e, λ h. reads_back two d e h.0 h.1 h.2)
