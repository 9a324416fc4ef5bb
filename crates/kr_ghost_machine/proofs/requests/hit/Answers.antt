use Rattle.kr_ghost.specs.declared.vain.Vain.TheVariants.{InsertHit}
use Rattle.kr_ghost.proofs.Locking.{vain_mode}
use Rattle.kr_ghost_machine.proofs.Sides.{side_mode}
use Rattle.kr_ghost_machine.proofs.requests.hit.Goals as goal

pub returns-clause-modes : goal.returns-clause-modes
returns-clause-modes g c =
    let protocol = c.args.protocol.now in
    let p = g.P.GhostProtocol.ghosts protocol in
    let same = g.met.P.GhostProtocol.tables protocol in
    let laws = g.met.P.GhostProtocol.lawful_ghosts protocol in (
      side_mode p.table _ same _ (vain_mode p laws InsertHit) _ _ _ c.side.ensures c.vain_request.ensures,
      side_mode p.table _ same _ laws.insert_hit_next _ _ _ c.above.ensures c.insert_hit_next.ensures,
    )
