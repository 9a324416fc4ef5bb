use Rattle.std.proofs.Common.{◌≡◌, refl, sym, subst}
use Rattle.std.proofs.lemmas.Result.{IfOk-weaker}
use Rattle.kr_model.specs.Serial.{AreSerial}
use Rattle.kr_ghost.specs.State.{opened}
use Rattle.kr_ghost_run.specs.Ran.{IsGhostRan}
use Rattle.kr_ghost_run.proofs.Left.{starts_at, ghost_ran, safe_programs}
use Rattle.kr_ghost_run.proofs.runs.run_moves.Goals as goal

pub returns-clause-ran : goal.returns-clause-ran
returns-clause-ran g c =
    let p = g.P.GhostProtocol.ghosts c.args.protocol.now in
    let q = g.P.GhostProtocol.ghosts c.new-stepper.result.protocol.now in
    let s = c.new-stepper.result.state in
    let index = c.in_ok-index.index in
    let same : q ≡ p = rw c.new-stepper.ensures.protocol refl in
    let starts : s ≡ opened c.args.opening.now = starts_at c.args.opening.now index.map index.ghosts s c.new-stepper.ensures.state c.in_ok-index.ensures.map c.in_ok-index.ensures.ghosts in
    let shown = c.ran_on.ensures in
    ghost_ran p q c.args.opening.now s c.args.moves.now c.ran_on.result same starts
    shown.answers shown.programs shown.index shown.ghosts shown.locks shown.modes shown.unfinished

pub returns-clause-safe : goal.returns-clause-safe
returns-clause-safe g c safe =
    let p = g.P.GhostProtocol.ghosts c.args.protocol.now in
    let serial = safe_programs p (g.met.P.GhostProtocol.lawful_ghosts c.args.protocol.now) safe c.args.opening.now c.args.moves.now c.requires in
    IfOk-weaker c.ran_on.result (λ ran. IsGhostRan p c.args.opening.now c.args.moves.now ran) _ (λ ran is. subst (λ ps. AreSerial c.args.opening.now ps) (sym is.programs) serial) (returns-clause-ran g c)
