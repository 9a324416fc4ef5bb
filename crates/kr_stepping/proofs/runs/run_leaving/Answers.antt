use Rattle.std.proofs.Common.{◌≡◌}
use Rattle.kr_ghost.specs.State.{opened}
use Rattle.kr_ghost_run.proofs.Left.{starts_at}
use Rattle.kr_kinds.specs.Kinds.{IndexProtocol, Leaves}
use Rattle.kr_stepping.proofs.EitherRuns.{is_leaving, index_ran}
use Rattle.kr_stepping.proofs.runs.run_leaving.Goals as goal

pub returns : goal.returns
returns g c =
    let x = g.P.IndexProtocol.index c.args.protocol.now in
    let y : IndexProtocol = Leaves (g.P.GhostProtocol.ghosts c.new-stepper.result.protocol.now) in
    let s = c.new-stepper.result.state in
    let index = c.in_ok-index.index in
    let same : y ≡ x = rw c.new-stepper.ensures.protocol (is_leaving x _ _ (g.met.P.IndexProtocol.has_tables c.args.protocol.now) c.requires.leaves) in
    let starts : s ≡ opened c.args.opening.now = starts_at c.args.opening.now index.map index.ghosts s c.new-stepper.ensures.state c.in_ok-index.ensures.map c.in_ok-index.ensures.ghosts in
    let shown = c.ran_on.ensures in
    index_ran x y c.args.opening.now s c.args.moves.now c.ran_on.result same starts
    shown.answers shown.programs shown.index shown.ghosts shown.locks shown.modes shown.unfinished
