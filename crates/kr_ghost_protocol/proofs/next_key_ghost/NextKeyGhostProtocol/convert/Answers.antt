use Rattle.kr_ghost_protocol.proofs.NextKeyGhostTables.{next_key_converted}
use Rattle.kr_ghost_protocol.proofs.next_key_ghost.NextKeyGhostProtocol.convert.Goals as goal

pub returns : goal.returns
returns c = next_key_converted c.args.held c.args.requested c.requires.held_is_mode c.requires.requested_is_mode
