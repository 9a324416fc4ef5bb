use Rattle.std.proofs.Common.{◌≡◌, ◌∙◌, ap₂}
use Rattle.std.proofs.lemmas.Result.{IfOk-weaker}
use Rattle.kr_ghost.specs.State.{GhostState, opened}
use Rattle.kr_ghost_run.proofs.Left.{starts_at}
use Rattle.kr_kinds.specs.Kinds.{IndexProtocol, Leaves}
use Rattle.kr_stepping.specs.Played.{replies_from}
use Rattle.kr_stepping.proofs.EitherRuns.{is_leaving}
use Rattle.kr_stepping.proofs.played.play_leaving.Goals as goal

pub returns : goal.returns
returns g c =
    let x = g.P.IndexProtocol.index c.args.protocol.now in
    let y : IndexProtocol = Leaves (g.P.GhostProtocol.ghosts c.new-stepper.result.protocol.now) in
    let s = c.new-stepper.result.state in
    let index = c.in_ok-index.index in
    let same : y ≡ x = rw c.new-stepper.ensures.protocol (is_leaving x _ _ (g.met.P.IndexProtocol.has_tables c.args.protocol.now) c.requires.leaves) in
    let starts : s ≡ opened c.args.opening.now = starts_at c.args.opening.now index.map index.ghosts s c.new-stepper.ensures.state c.in_ok-index.ensures.map c.in_ok-index.ensures.ghosts in
    IfOk-weaker c.play_on.result _ _ (λ replies are. are ∙ ap₂ (λ (z : IndexProtocol) (t : GhostState). replies_from z t c.args.events.now) same starts) c.play_on.ensures
