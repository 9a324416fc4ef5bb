use Rattle.kr_c.proofs.bytes.krr_run.Goals as goal

-- What is told is what the call on bytes gives.
pub returns : goal.returns
returns c = (c.run_bytes.result, (c.run_bytes.ensures.run, (c.run_bytes.ensures.fault, c.tell.ensures)))
