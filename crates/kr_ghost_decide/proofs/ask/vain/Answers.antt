use Rattle.kr_ghost.specs.Step as step
use Rattle.kr_ghost.proofs.Locking.{vain_mode}
use Rattle.kr_ghost_decide.proofs.Within.{asked_within}
use Rattle.kr_ghost_decide.proofs.ask.vain.Goals as goal

pub returns-clause-in_range : goal.returns-clause-in_range
returns-clause-in_range g c =
    let laws = g.met.P.GhostProtocol.lawful_ghosts c.args.protocol.now in
    let p = g.P.GhostProtocol.ghosts c.args.protocol.now in
    asked_within p (step.vain p c.args.vain) c.vain_request.result (vain_mode p laws c.args.vain) c.vain_request.ensures
