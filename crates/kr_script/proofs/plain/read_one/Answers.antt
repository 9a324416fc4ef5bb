use Rattle.std.proofs.Common.{refl}
use Rattle.kr_script.proofs.plain.read_one.Goals as goal

pub returns : goal.returns
returns c = (c.read_number.new.reader, c.in_ok-number.ensures 124, refl)
