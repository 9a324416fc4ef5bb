use Rattle.kr_protocol.proofs.KvlTables.{kvl_converted}
use Rattle.kr_protocol.proofs.kvl.KvlProtocol.convert.Goals as goal

pub returns : goal.returns
returns c = kvl_converted c.args.held c.args.requested c.requires.held_is_mode c.requires.requested_is_mode
