use Rattle.kr_c.proofs.sessions.krr_unfinished.Goals as goal

-- What is told is what the handle gives.
pub returns-clause-list : goal.returns-clause-list
returns-clause-list c = (c.unfinished.result, (c.unfinished.ensures.read, c.list.ensures))
