use Rattle.std.proofs.Common.{refl}
use Rattle.kr_script.proofs.plain.read_two.Goals as goal

pub returns : goal.returns
returns c = (c.read_number.new.reader, c.in_ok-first.ensures 124, (c.read_number-2.new.reader, c.in_ok-second.ensures 124, refl))
