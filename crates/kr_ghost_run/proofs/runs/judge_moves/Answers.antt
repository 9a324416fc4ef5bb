use Rattle.std.proofs.Common.{refl, ◌≡◌, ◌∙◌, ap}
use Rattle.std.proofs.lemmas.Result.{IfOk-weaker}
use Rattle.kr_model.specs.Run.{programs}
use Rattle.kr_judge.proofs.Wholes.{serial_exactly}
use Rattle.kr_ghost.specs.Protocol.{GhostProtocol}
use Rattle.kr_ghost.specs.Run.{run}
use Rattle.kr_ghost.specs.State.{opened}
use Rattle.kr_ghost_run.specs.Ran.{verdict_of_moves}
use Rattle.kr_ghost_run.proofs.Left.{safe_programs}
use Rattle.kr_ghost_run.proofs.runs.judge_moves.Goals as goal

pub returns-clause-serial : goal.returns-clause-serial
returns-clause-serial g c =
    let p = g.P.GhostProtocol.ghosts c.args.protocol.now in
    let r = run p (opened c.args.opening.now) c.args.moves.now in
    let same : g.P.GhostProtocol.ghosts c.new-stepper.result.protocol.now ≡ p = rw c.new-stepper.ensures.protocol refl in
    IfOk-weaker c.judge_on.result _ _
    (λ v is. serial_exactly v c.args.opening.now (programs r.history) (is ∙ ap (λ (q : GhostProtocol). verdict_of_moves q c.args.opening.now c.args.moves.now) same))
    c.judge_on.ensures

pub returns-clause-safe : goal.returns-clause-safe
returns-clause-safe g c safe =
    let serial = safe_programs (g.P.GhostProtocol.ghosts c.args.protocol.now) (g.met.P.GhostProtocol.lawful_ghosts c.args.protocol.now) safe c.args.opening.now c.args.moves.now c.requires in
    IfOk-weaker c.judge_on.result _ _ (λ v is. is.1 serial) (returns-clause-serial g c)
