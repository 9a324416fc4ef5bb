-- What a run with ghosts leaves, and the verdict on it.
use Rattle.std.specs.Prelude.{◌≡◌, ◌≤◌, List, [], ◌∷◌, All, map}
use Rattle.kr_model.specs.Map.{Map}
use Rattle.kr_model.specs.Run.{programs}
use Rattle.kr_model.specs.Difference.{first_difference}
use Rattle.kr_judge.specs.declared.verdict.Verdict.{Verdict}
use Rattle.kr_judge.specs.Verdicts.{verdict_of}
use Rattle.kr_ghost.specs.declared.moves.Move.{Move}
use Rattle.kr_ghost.specs.declared.moves.Move.TheVariants as move
use Rattle.kr_ghost.specs.Protocol.{GhostProtocol}
use Rattle.kr_ghost.specs.State.{GhostState, opened}
use Rattle.kr_ghost.specs.Step.{step, may_purge, purged}
use Rattle.kr_ghost.specs.Run.{run}
use Rattle.kr_ghost_run.specs.declared.ran.Answer.{Answer}
use Rattle.kr_ghost_run.specs.declared.ran.Answer.TheVariants as answer
use Rattle.kr_ghost_run.specs.declared.ran.GhostRan.{GhostRan}

-- The answer to each move, in order: the reply to a step, and to a purge whether it took its ghost away.
abbrev pub answers : GhostProtocol → GhostState → List Move → List Answer
answers p s [] = []
answers p s (move.Attempt e ∷ moves) = let o = step p s e.txn e.op in answer.Step o.0 ∷ answers p o.1 moves
answers p s (move.Purge k ∷ moves) = answer.Purge (may_purge p s k) ∷ answers p (purged p s k) moves

-- What the definition's run of these moves under p from the opening map leaves.
pub record IsGhostRan (p : GhostProtocol) (opening : Map) (moves : List Move) (ran : GhostRan) : Type 0 where
  -- an answer for each move
  pub answers : ran.answers ≡ answers p (opened opening) moves
  -- the programs are those of the transactions that commit in the run
  pub programs : ran.programs ≡ (let r = run p (opened opening) moves in programs r.history)
  -- index, ghosts, locks and unfinished transactions are those of the run's last state; the mode of each lock is one of p's
  pub index : ran.index ≡ (let r = run p (opened opening) moves in let s = r.last in s.state.map)
  pub ghosts : ran.ghosts ≡ (let r = run p (opened opening) moves in let s = r.last in s.ghosts)
  pub locks : ran.locks ≡ (let r = run p (opened opening) moves in let s = r.last in s.state.locks)
  pub modes : All (λ l. l.1 ≤ p.table.count) ran.locks
  pub unfinished : ran.unfinished ≡ (let r = run p (opened opening) moves in let s = r.last in map (λ a. a.0) s.state.active)

-- The verdict on the run of the moves under p from an opening map: that of its committed programs.
abbrev pub verdict_of_moves : GhostProtocol → Map → List Move → Verdict
verdict_of_moves p opening moves = let r = run p (opened opening) moves in verdict_of (first_difference opening (programs r.history))
