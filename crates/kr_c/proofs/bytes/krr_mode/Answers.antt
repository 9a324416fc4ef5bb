use Rattle.std.proofs.Common.{Ok, Err, true, refl}
use Rattle.kr_c.proofs.bytes.krr_mode.Goals as goal

-- What is told is the name, or the fault.
pub returns-in-Ok : goal.returns-in-Ok
returns-in-Ok c = (Ok (true, c.in-Ok.name), ((refl, c.in-Ok.ensures.name), (tt, c.tell.ensures)))

pub returns-in-Err : goal.returns-in-Err
returns-in-Err c = (Err c.in-Err.fault, (tt, (c.in-Err.ensures.fault, c.tell-in-Err.ensures)))
