use Rattle.kr_ghost_machine.proofs.Sides.{side_mode}
use Rattle.kr_ghost_machine.proofs.requests.revive.Goals as goal

pub returns-clause-modes : goal.returns-clause-modes
returns-clause-modes g c =
    let protocol = c.args.protocol.now in
    let p = g.P.GhostProtocol.ghosts protocol in
    let same = g.met.P.GhostProtocol.tables protocol in
    let laws = g.met.P.GhostProtocol.lawful_ghosts protocol in (
      side_mode p.table _ same _ laws.revive _ _ _ c.side.ensures c.revive.ensures,
      side_mode p.table _ same _ laws.revive_next _ _ _ c.above.ensures c.revive_next.ensures,
    )
