-- Tables without ghosts that are alike are so as tables of either kind.
use Rattle.std.proofs.Common.{◌≡◌, ◌∙◌, ap, sym, []}
use Rattle.kr_model.specs.Protocol.{Protocol}
use Rattle.kr_model.specs.State.{start}
use Rattle.kr_model.specs.Run as gone
use Rattle.kr_ghost.specs.State.{opened}
use Rattle.kr_ghost.specs.Run.{GhostTrace}
use Rattle.kr_kinds.specs.Kinds.{Gone}
use Rattle.kr_kinds.specs.Runs.{beside, run, steps_in}
use Rattle.kr_kinds.proofs.Serial.{of_steps}
use Rattle.kr_alike.specs.Coming.{AlikeOnMaps}
use Rattle.kr_suite_core.specs.Alike.{AlikeIndexes}

pub alike_gone : (p q : Protocol) → AlikeOnMaps p q → AlikeIndexes (Gone p) (Gone q)
alike_gone p q alike opening moves is_map =
    let a : GhostTrace = run (Gone p) (opened opening) moves in
    let b : GhostTrace = run (Gone q) (opened opening) moves in
    let c = gone.run p (start opening) (steps_in moves) in
    let d = gone.run q (start opening) (steps_in moves) in
    let first : a ≡ beside [] c = of_steps p (opened opening) moves in
    let second : b ≡ beside [] d = of_steps q (opened opening) moves in
    let same = alike opening (steps_in moves) is_map in
    record {
      history = ap (λ (t : GhostTrace). t.history) first ∙ same.history ∙ sym (ap (λ (t : GhostTrace). t.history) second);
      map = ap (λ (t : GhostTrace). t.last.state.map) first ∙ same.map ∙ sym (ap (λ (t : GhostTrace). t.last.state.map) second);
      ghosts = ap (λ (t : GhostTrace). t.last.ghosts) first ∙ sym (ap (λ (t : GhostTrace). t.last.ghosts) second);
      active = ap (λ (t : GhostTrace). t.last.state.active) first ∙ same.active ∙ sym (ap (λ (t : GhostTrace). t.last.state.active) second);
    }
