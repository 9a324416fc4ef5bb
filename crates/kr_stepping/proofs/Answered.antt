-- The answers of either kind are those of its kind.
use Rattle.std.proofs.Common.{false, List, [], ◌∷◌, refl, ap}
use Rattle.kr_model.specs.Protocol.{Protocol}
use Rattle.kr_model.specs.Step as gone
use Rattle.kr_ghost.specs.declared.moves.Move.TheVariants as move
use Rattle.kr_ghost.specs.Protocol.{GhostProtocol}
use Rattle.kr_ghost.specs.State.{GhostState}
use Rattle.kr_ghost.specs.Step as ghost
use Rattle.kr_ghost_run.specs.declared.ran.Answer.{Answer}
use Rattle.kr_ghost_run.specs.declared.ran.Answer.TheVariants as answer
use Rattle.kr_stepping.specs.Answers.{AreAnswersOfSteps, AreAnswersWithGhosts}

-- An answer more in front of others.
abbrev more : Answer → List Answer → List Answer
more a rest = a ∷ rest

pub of_steps : (p : Protocol) → AreAnswersOfSteps p
of_steps p s [] = refl
of_steps p s (move.Attempt e ∷ moves) =
    let o = gone.step p s.state e.txn e.op in
    let after : GhostState = record { state = o.1; ghosts = s.ghosts } in
    ap (λ rest. more (answer.Step o.0) rest) (of_steps p after moves)
of_steps p s (move.Purge k ∷ moves) = ap (λ rest. more (answer.Purge false) rest) (of_steps p s moves)

pub with_ghosts : (p : GhostProtocol) → AreAnswersWithGhosts p
with_ghosts p s [] = refl
with_ghosts p s (move.Attempt e ∷ moves) = let o = ghost.step p s e.txn e.op in ap (λ rest. more (answer.Step o.0) rest) (with_ghosts p o.1 moves)
with_ghosts p s (move.Purge k ∷ moves) = ap (λ rest. more (answer.Purge (ghost.may_purge p s k)) rest) (with_ghosts p (ghost.purged p s k) moves)
