use Rattle.kr_model.proofs.SerialLaws.{serial_if, none_if_serial}
use Rattle.kr_model.proofs.DifferenceLaws.{difference_is_first, first_is_difference}
use Rattle.kr_theorem.proofs.differences_tell.Goals as goal

pub returns-clause-if_none : goal.returns-clause-if_none
returns-clause-if_none c = serial_if

pub returns-clause-if_serial : goal.returns-clause-if_serial
returns-clause-if_serial c = none_if_serial

pub returns-clause-first : goal.returns-clause-first
returns-clause-first c = difference_is_first

pub returns-clause-only : goal.returns-clause-only
returns-clause-only c = first_is_difference
