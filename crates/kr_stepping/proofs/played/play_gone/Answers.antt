use Rattle.std.proofs.Common.{◌≡◌, ◌∙◌, ap, ap₂, subst, IfOk}
use Rattle.std.proofs.lemmas.Result.{IfOk-weaker}
use Rattle.kr_ghost.specs.State.{GhostState, opened}
use Rattle.kr_kinds.specs.Kinds.{IndexProtocol, Gone}
use Rattle.kr_stepping.specs.Played.{replies_from}
use Rattle.kr_stepping.proofs.EitherRuns.{is_gone}
use Rattle.kr_stepping.proofs.played.play_gone.Goals as goal

pub returns : goal.returns
returns g c =
    let x = g.P.IndexProtocol.index c.args.protocol.now in
    let y : IndexProtocol = Gone (g.P.Protocol.table c.new-stepper.result.protocol.now) in
    let s = c.new-stepper.result.state in
    let same : y ≡ x = rw c.new-stepper.ensures (is_gone x _ _ (g.met.P.IndexProtocol.has_tables c.args.protocol.now) c.requires.gone) in
    let starts : s ≡ opened c.args.opening.now = rw c.new-stepper.ensures (ap opened c.in_ok-index.ensures.map) in
    IfOk-weaker c.play_on.result _ _ (λ replies are. are ∙ ap₂ (λ (z : IndexProtocol) (t : GhostState). replies_from z t c.args.events.now) same starts) c.play_on.ensures
