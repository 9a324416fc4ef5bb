use Rattle.kr_c.proofs.sessions.krr_verdict.Goals as goal

-- What is told is what the handle gives.
pub returns-clause-verdict : goal.returns-clause-verdict
returns-clause-verdict c = (c.verdict.result, (c.verdict.ensures.judged, c.judgement.ensures))
