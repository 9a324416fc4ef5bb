use Rattle.kr_trace_follow.proofs.HeldLaws.{held_since}
use Rattle.kr_trace_follow.proofs.laws.locks_are_held_since_lines.Goals as goal

pub returns : goal.returns
returns c = held_since
