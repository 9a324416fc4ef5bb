use Rattle.kr_ghost.proofs.Locking.{missed_mode}
use Rattle.kr_ghost_machine.proofs.Sides.{side_mode}
use Rattle.kr_ghost_machine.proofs.requests.miss.Goals as goal

pub returns-clause-modes : goal.returns-clause-modes
returns-clause-modes g c =
    let protocol = c.args.protocol.now in
    let p = g.P.GhostProtocol.ghosts protocol in
    let same = g.met.P.GhostProtocol.tables protocol in
    let laws = g.met.P.GhostProtocol.lawful_ghosts protocol in
    (tt, side_mode p.table _ same _ (missed_mode p laws c.args.row) _ _ _ c.side.ensures c.missed.ensures)
