use Rattle.std.specs.Prelude.{◌≡◌, ◌+◌, length, refl}
use Rattle.std.proofs.Common.{◌∙◌}
use Rattle.kr_ghost.specs.State.{opened}
use Rattle.kr_ghost_run.proofs.Left.{starts_at}
use Rattle.kr_ghost_view.specs.Moves.{after_all, drawn_moves}
use Rattle.kr_ghost_view.proofs.Rest.{numbered, drawn_are, same_moves}
use Rattle.kr_ghost_view.proofs.scenes.ghost_scenes_of.Goals as goal

pub returns : goal.returns
returns g c =
    let p = g.P.GhostProtocol.ghosts c.args.protocol.now in
    let q = g.P.GhostProtocol.ghosts c.new-stepper.result.protocol.now in
    let s = c.new-stepper.result.state in
    let opening = c.args.opening.now in
    let moves = c.args.moves.now in
    let earlier = c.split_at.result.0.now in
    let drawn = c.split_at.result.1.now in
    let index = c.in_ok-index.index in
    let same : q ≡ p = rw c.new-stepper.ensures.protocol refl in
    let starts : s ≡ opened opening = starts_at opening index.map index.ghosts s c.new-stepper.ensures.state c.in_ok-index.ensures.map c.in_ok-index.ensures.ghosts in
    same_moves c.scenes_on.result (numbered q (after_all q s earlier) (length earlier + 1) drawn) (drawn_moves p opening moves)
    (drawn_are p q opening moves earlier drawn s same starts (c.split_at.ensures.front_len ∙ c.saturating_sub.ensures) c.split_at.ensures.by_index.0) c.scenes_on.ensures
