use Rattle.kr_c.proofs.bytes.krr_explain_script.Goals as goal

-- What is told is what the call on bytes gives.
pub returns : goal.returns
returns c = (c.script_of_cause.result, (c.script_of_cause.ensures.script, (c.script_of_cause.ensures.fault, c.found.ensures)))
