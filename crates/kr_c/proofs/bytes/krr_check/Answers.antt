use Rattle.kr_c.proofs.bytes.krr_check.Goals as goal

-- What is told is what the call on bytes gives.
pub returns : goal.returns
returns c = (c.check_bytes.result, (c.check_bytes.ensures.checked, (c.check_bytes.ensures.fault, c.tell.ensures)))
