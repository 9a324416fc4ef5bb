use Rattle.kr_ghost_protocol.proofs.NextKeyGhostTables.{next_key_compatible}
use Rattle.kr_ghost_protocol.proofs.next_key_ghost.NextKeyGhostProtocol.ok.Goals as goal

pub returns : goal.returns
returns c = next_key_compatible c.args.requested c.args.held c.requires.requested_is_mode c.requires.held_is_mode
