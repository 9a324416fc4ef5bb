use Rattle.kr_cli_tasks.proofs.scripts.judge_scripts.Goals as goal

-- What may be found at a name is what may be had for the word.
pub returns-in-Ok-clause-reports : goal.returns-in-Ok-clause-reports
returns-in-Ok-clause-reports g c = c.in-Ok.ensures.ok

pub ending_for-requires : goal.ending_for-requires
ending_for-requires g c = rw c.in-Err-Judge.field-0-is at c.in-Err-Judge.ensures.err

pub returns-in-Err-Judge-clause-err : goal.returns-in-Err-Judge-clause-err
returns-in-Err-Judge-clause-err g c = c.ending_for.ensures.ends
