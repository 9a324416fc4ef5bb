-- The answers to moves in an index of either kind.
use Rattle.std.specs.Prelude.{◌≡◌, false, List, [], ◌∷◌}
use Rattle.kr_model.specs.declared.Reply.{Reply}
use Rattle.kr_model.specs.Protocol.{Protocol}
use Rattle.kr_model.specs.Run.{replies_of}
use Rattle.kr_model.specs.Run as gone
use Rattle.kr_ghost.specs.declared.moves.Move.{Move}
use Rattle.kr_ghost.specs.declared.moves.Move.TheVariants as move
use Rattle.kr_ghost.specs.Protocol.{GhostProtocol}
use Rattle.kr_ghost.specs.State.{GhostState}
use Rattle.kr_ghost_run.specs.declared.ran.Answer.{Answer}
use Rattle.kr_ghost_run.specs.declared.ran.Answer.TheVariants as answer
use Rattle.kr_ghost_run.specs.Ran as ghost
use Rattle.kr_kinds.specs.Kinds.{IndexProtocol, Gone, Leaves}
use Rattle.kr_kinds.specs.Steps.{step, may_purge, purged}
use Rattle.kr_kinds.specs.Runs.{steps_in}

-- The answer to each move, in order: the reply to a step, and to a purge whether it took its ghost away.
abbrev pub answers : IndexProtocol → GhostState → List Move → List Answer
answers p s [] = []
answers p s (move.Attempt e ∷ moves) = let o = step p s e.txn e.op in answer.Step o.0 ∷ answers p o.1 moves
answers p s (move.Purge k ∷ moves) = answer.Purge (may_purge p s k) ∷ answers p (purged p s k) moves

-- The replies given to the steps among moves, in order, and to each purge that it took nothing away.
abbrev pub given : List Move → List Reply → List Answer
given [] rs = []
given (move.Attempt e ∷ moves) [] = []
given (move.Attempt e ∷ moves) (r ∷ rs) = answer.Step r ∷ given moves rs
given (move.Purge k ∷ moves) rs = answer.Purge false ∷ given moves rs

-- Where a deleted key goes at once, the answers are the replies of the run of the steps, and no purge takes anything away.
abbrev pub AreAnswersOfSteps : Protocol → Type 0
AreAnswersOfSteps p = (s : GhostState) (moves : List Move) → answers (Gone p) s moves ≡ given moves (let r = gone.run p s.state (steps_in moves) in replies_of r.history)

-- Where a deleted key stays as a ghost, they are those in an index with ghosts.
abbrev pub AreAnswersWithGhosts : GhostProtocol → Type 0
AreAnswersWithGhosts p = (s : GhostState) (moves : List Move) → answers (Leaves p) s moves ≡ ghost.answers p s moves
