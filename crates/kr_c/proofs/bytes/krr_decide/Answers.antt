use Rattle.std.proofs.Common.{Ok, Err}
use Rattle.kr_c.proofs.bytes.krr_decide.Goals as goal

-- What is told is the decision, with no text, or the fault.
pub returns-in-Ok : goal.returns-in-Ok
returns-in-Ok c = (Ok (c.in-Ok.is_safe, c.new.result), (c.in-Ok.ensures.decided, (tt, c.tell.ensures)))

pub returns-in-Err : goal.returns-in-Err
returns-in-Err c = (Err c.in-Err.fault, (tt, (c.in-Err.ensures.fault, c.tell-in-Err.ensures)))
