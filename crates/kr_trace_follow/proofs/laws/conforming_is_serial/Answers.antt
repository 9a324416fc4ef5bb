use Rattle.kr_trace_follow.proofs.TraceLaws.{safe_trace, covered_trace}
use Rattle.kr_trace_follow.proofs.laws.conforming_is_serial.Goals as goal

pub returns-clause-safe : goal.returns-clause-safe
returns-clause-safe c = safe_trace

pub returns-clause-covered : goal.returns-clause-covered
returns-clause-covered c = covered_trace
