use Rattle.kr_c.proofs.bytes.krr_explain.Goals as goal

-- What is told is what the call on bytes gives.
pub returns : goal.returns
returns c = (c.explain_bytes.result, (c.explain_bytes.ensures.explained, (c.explain_bytes.ensures.fault, c.tell.ensures)))
