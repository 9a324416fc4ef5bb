use Rattle.kr_trace_follow.proofs.GivenLaws.{one_more_program, first_program, other_programs, none_differs, differs_none}
use Rattle.kr_trace_follow.proofs.WholeLaws.{given_whole, whole_given}
use Rattle.kr_trace_follow.proofs.laws.programs_are_judged.Goals as goal

pub returns-clause-one_more : goal.returns-clause-one_more
returns-clause-one_more c = one_more_program

pub returns-clause-first : goal.returns-clause-first
returns-clause-first c = first_program

pub returns-clause-others : goal.returns-clause-others
returns-clause-others c = other_programs

pub returns-clause-whole : goal.returns-clause-whole
returns-clause-whole c = given_whole

pub returns-clause-given : goal.returns-clause-given
returns-clause-given c = whole_given

pub returns-clause-judged : goal.returns-clause-judged
returns-clause-judged c = none_differs

pub returns-clause-if_judged : goal.returns-clause-if_judged
returns-clause-if_judged c = differs_none
