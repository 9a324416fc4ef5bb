use Rattle.kr_c.proofs.sessions.krr_locks.Goals as goal

-- What is told is what the handle gives.
pub returns-clause-list : goal.returns-clause-list
returns-clause-list c = (c.locks.result, (c.locks.ensures.read, c.list.ensures))
