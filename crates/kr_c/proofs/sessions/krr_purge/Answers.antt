use Rattle.kr_c.proofs.sessions.krr_purge.Goals as goal

-- What is told is what the handle gives.
pub returns : goal.returns
returns c = (c.purge.result, (c.purge.ensures, c.purge_code.ensures))
