use Rattle.kr_protocol.proofs.KvlRows.{kvl_rows}
use Rattle.kr_protocol.proofs.kvl.KvlProtocol.row.Goals as goal

pub returns : goal.returns
returns c = kvl_rows c.args.requested c.requires
