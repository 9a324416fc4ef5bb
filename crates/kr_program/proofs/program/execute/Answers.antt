use Rattle.std.specs.Prelude.{map, string_bytes}
use Rattle.kr_program.proofs.Told as told
use Rattle.kr_program.proofs.program.execute.Goals as goal

pub returns-clause-within : goal.returns-clause-within
returns-clause-within g c = told.within _ _ _ _ _ _ c.run_words.ensures.answers

pub returns-clause-check : goal.returns-clause-check
returns-clause-check g c table are zero = told.check_is_serial _ _ _ _ _ _ table c.run_words.ensures.answers are zero

pub returns-clause-run : goal.returns-clause-run
returns-clause-run g c table script are zero = told.run_is_serial _ _ _ _ _ _ table script c.run_words.ensures.answers are zero

pub returns-clause-judge : goal.returns-clause-judge
returns-clause-judge g c table scripts are zero = told.judge_is_serial _ _ _ _ _ _ table scripts c.run_words.ensures.answers are zero

pub returns-clause-threads : goal.returns-clause-threads
returns-clause-threads g c table rest are zero = told.threads_are_serial _ _ _ _ _ _ table rest c.run_words.ensures.answers are zero

pub returns-clause-explain : goal.returns-clause-explain
returns-clause-explain g c table rest are none zero = told.explained_is_serial _ _ _ _ _ _ table rest c.run_words.ensures.answers are none zero

pub returns-clause-one_line : goal.returns-clause-one_line
returns-clause-one_line g c rest begin two = told.fault_is_one_line _ _ _ _ _ _ rest c.run_words.ensures.answers begin two
