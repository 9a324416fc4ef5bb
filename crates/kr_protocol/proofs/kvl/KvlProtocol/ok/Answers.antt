use Rattle.kr_protocol.proofs.KvlTables.{kvl_compatible}
use Rattle.kr_protocol.proofs.kvl.KvlProtocol.ok.Goals as goal

pub returns : goal.returns
returns c = kvl_compatible c.args.requested c.args.held c.requires.requested_is_mode c.requires.held_is_mode
