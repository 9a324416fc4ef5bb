use Rattle.kr_c.proofs.sessions.krr_rows.Goals as goal

-- What is told is what the handle gives.
pub returns-clause-list : goal.returns-clause-list
returns-clause-list c = (c.rows.result, (c.rows.ensures.read, c.list.ensures))
