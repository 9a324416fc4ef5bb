use Rattle.kr_ghost_protocol.proofs.NextKeyGhostTables.{next_key_rows}
use Rattle.kr_ghost_protocol.proofs.next_key_ghost.NextKeyGhostProtocol.row.Goals as goal

pub returns : goal.returns
returns c = next_key_rows c.args.requested c.requires
