use Rattle.std.specs.Prelude.{refl}
use Rattle.kr_trace_parts.proofs.serial.wrong_answer.Goals as goal

pub returns : goal.returns
returns c m d = (refl, (d, c.given_at.ensures d.before d.rest d.op d.answer d.place d.numbered))
