use Rattle.kr_ghost_decide.proofs.Within.{asked_within}
use Rattle.kr_ghost_decide.proofs.ask.insert_hit_next.Goals as goal

pub returns-clause-in_range : goal.returns-clause-in_range
returns-clause-in_range g c =
    let laws = g.met.P.GhostProtocol.lawful_ghosts c.args.protocol.now in
    let p = g.P.GhostProtocol.ghosts c.args.protocol.now in
    asked_within p p.insert_hit_next c.insert_hit_next.result laws.insert_hit_next c.insert_hit_next.ensures
