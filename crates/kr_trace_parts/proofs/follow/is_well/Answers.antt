use Rattle.std.specs.Prelude.{refl}
use Rattle.kr_trace_parts.proofs.FollowLaws.{not_well_if_some, well_if_none}
use Rattle.kr_trace_parts.proofs.follow.is_well.Goals as goal

pub returns-then-is_none : goal.returns-then-is_none
returns-then-is_none c = well_if_none c.args.found.now c.args.verdict.now c.is_none.result c.is_serial.result c.is_serial.result c.is_none.ensures c.if-is_none.true c.is_serial.ensures refl

pub returns-else-is_none : goal.returns-else-is_none
returns-else-is_none c = not_well_if_some c.args.found.now c.args.verdict.now c.is_none.result c.is_none.result c.is_none.ensures c.if-is_none.false c.if-is_none.false
