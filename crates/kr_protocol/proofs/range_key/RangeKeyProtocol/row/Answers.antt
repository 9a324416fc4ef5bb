use Rattle.kr_protocol.proofs.RangeKeyRows.{range_key_rows}
use Rattle.kr_protocol.proofs.range_key.RangeKeyProtocol.row.Goals as goal

pub returns : goal.returns
returns c = range_key_rows c.args.requested c.requires
