use Rattle.std.proofs.Common.{◌≡◌, ap}
use Rattle.kr_ghost.specs.State.{opened}
use Rattle.kr_kinds.specs.Kinds.{IndexProtocol, Gone}
use Rattle.kr_stepping.proofs.EitherRuns.{is_gone, index_ran}
use Rattle.kr_stepping.proofs.runs.run_gone.Goals as goal

pub returns : goal.returns
returns g c =
    let x = g.P.IndexProtocol.index c.args.protocol.now in
    let y : IndexProtocol = Gone (g.P.Protocol.table c.new-stepper.result.protocol.now) in
    let s = c.new-stepper.result.state in
    let same : y ≡ x = rw c.new-stepper.ensures (is_gone x _ _ (g.met.P.IndexProtocol.has_tables c.args.protocol.now) c.requires.gone) in
    let starts : s ≡ opened c.args.opening.now = rw c.new-stepper.ensures (ap opened c.in_ok-index.ensures.map) in
    let shown = c.ran_on.ensures in
    index_ran x y c.args.opening.now s c.args.moves.now c.ran_on.result same starts
    shown.answers shown.programs shown.index shown.ghosts shown.locks shown.modes shown.unfinished
