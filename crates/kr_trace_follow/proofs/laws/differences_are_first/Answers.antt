use Rattle.kr_trace_follow.proofs.GivenLaws.{answered_if, no_difference, difference_is_first, first_is_difference}
use Rattle.kr_trace_follow.proofs.laws.differences_are_first.Goals as goal

pub returns-clause-if_none : goal.returns-clause-if_none
returns-clause-if_none c = λ m os h. answered_if m 1 os h

pub returns-clause-if_answered : goal.returns-clause-if_answered
returns-clause-if_answered c = λ m os h. no_difference m 1 os h

pub returns-clause-first : goal.returns-clause-first
returns-clause-first c = difference_is_first

pub returns-clause-only : goal.returns-clause-only
returns-clause-only c = first_is_difference
