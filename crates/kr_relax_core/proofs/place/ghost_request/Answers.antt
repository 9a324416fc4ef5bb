use Rattle.kr_ghost.specs.declared.vain.Vain.TheVariants as vain
use Rattle.kr_ghost.specs.Step as step
use Rattle.kr_ghost.proofs.Locking.{vain_mode}
use Rattle.kr_ghost_decide.proofs.Within.{asked_within}
use Rattle.kr_relax_core.proofs.place.ghost_request.Goals as goal

pub returns-in-Revive-Current-clause-in_range : goal.returns-in-Revive-Current-clause-in_range
returns-in-Revive-Current-clause-in_range g c =
    let laws = g.met.P.GhostProtocol.lawful_ghosts c.args.protocol.now in
    let p = g.P.GhostProtocol.ghosts c.args.protocol.now in
    asked_within p p.revive c.revive.result laws.revive c.revive.ensures

pub returns-in-Revive-Next-clause-in_range : goal.returns-in-Revive-Next-clause-in_range
returns-in-Revive-Next-clause-in_range g c =
    let laws = g.met.P.GhostProtocol.lawful_ghosts c.args.protocol.now in
    let p = g.P.GhostProtocol.ghosts c.args.protocol.now in
    asked_within p p.revive_next c.revive_next.result laws.revive_next c.revive_next.ensures

pub returns-in-InsertHit-Current-clause-in_range : goal.returns-in-InsertHit-Current-clause-in_range
returns-in-InsertHit-Current-clause-in_range g c =
    let laws = g.met.P.GhostProtocol.lawful_ghosts c.args.protocol.now in
    let p = g.P.GhostProtocol.ghosts c.args.protocol.now in
    asked_within p (step.vain p vain.InsertHit) c.vain_request.result (vain_mode p laws vain.InsertHit) c.vain_request.ensures

pub returns-in-InsertHit-Next-clause-in_range : goal.returns-in-InsertHit-Next-clause-in_range
returns-in-InsertHit-Next-clause-in_range g c =
    let laws = g.met.P.GhostProtocol.lawful_ghosts c.args.protocol.now in
    let p = g.P.GhostProtocol.ghosts c.args.protocol.now in
    asked_within p p.insert_hit_next c.insert_hit_next.result laws.insert_hit_next c.insert_hit_next.ensures

pub returns-in-DeleteMiss-default-clause-in_range : goal.returns-in-DeleteMiss-default-clause-in_range
returns-in-DeleteMiss-default-clause-in_range g c =
    let laws = g.met.P.GhostProtocol.lawful_ghosts c.args.protocol.now in
    let p = g.P.GhostProtocol.ghosts c.args.protocol.now in
    asked_within p (step.vain p vain.DeleteMiss) c.vain_request-in-DeleteMiss-default.result (vain_mode p laws vain.DeleteMiss) c.vain_request-in-DeleteMiss-default.ensures

pub returns-in-UpdateMiss-default-clause-in_range : goal.returns-in-UpdateMiss-default-clause-in_range
returns-in-UpdateMiss-default-clause-in_range g c =
    let laws = g.met.P.GhostProtocol.lawful_ghosts c.args.protocol.now in
    let p = g.P.GhostProtocol.ghosts c.args.protocol.now in
    asked_within p (step.vain p vain.UpdateMiss) c.vain_request-in-UpdateMiss-default.result (vain_mode p laws vain.UpdateMiss) c.vain_request-in-UpdateMiss-default.ensures
