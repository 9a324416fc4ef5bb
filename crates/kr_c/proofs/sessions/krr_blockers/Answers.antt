use Rattle.kr_c.proofs.sessions.krr_blockers.Goals as goal

-- What is told is what the handle gives.
pub returns-clause-list : goal.returns-clause-list
returns-clause-list c = (c.blockers.result, (c.blockers.ensures.read, c.list.ensures))
