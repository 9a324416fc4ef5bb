use Rattle.kr_c.proofs.sessions.krr_ghosts.Goals as goal

-- What is told is what the handle gives.
pub returns-clause-list : goal.returns-clause-list
returns-clause-list c = (c.ghosts.result, (c.ghosts.ensures.read, c.list.ensures))
