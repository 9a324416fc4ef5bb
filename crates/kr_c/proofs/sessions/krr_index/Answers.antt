use Rattle.kr_c.proofs.sessions.krr_index.Goals as goal

-- What is told is what the handle gives.
pub returns-clause-list : goal.returns-clause-list
returns-clause-list c = (c.index.result, (c.index.ensures.read, c.list.ensures))
