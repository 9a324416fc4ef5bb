use Rattle.kr_trace_follow.specs.Following.{at_start}
use Rattle.kr_trace_follow.proofs.ConformLaws.{found_first, followed_all}
use Rattle.kr_trace_follow.proofs.laws.lines_are_followed.Goals as goal

pub returns-clause-found : goal.returns-clause-found
returns-clause-found c = λ p opening lines. found_first p (at_start opening) lines

pub returns-clause-point : goal.returns-clause-point
returns-clause-point c = λ p opening lines none. followed_all p (at_start opening) lines none
