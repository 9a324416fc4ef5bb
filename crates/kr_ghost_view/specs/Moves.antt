-- The moves of a run with ghosts that are drawn.
use Rattle.std.specs.Prelude.{ℕ, List, [], ◌∷◌, ◌-◌, drop, length}
use Rattle.std.specs.List.{enumerate_from}
use Rattle.kr_model.specs.Map.{Map}
use Rattle.kr_ghost.specs.declared.moves.Move.{Move}
use Rattle.kr_ghost.specs.declared.moves.Move.TheVariants as move
use Rattle.kr_ghost.specs.Protocol.{GhostProtocol}
use Rattle.kr_ghost.specs.State.{GhostState, opened}
use Rattle.kr_ghost.specs.Step.{step, may_purge, purged}
use Rattle.kr_view_scenes.specs.declared.act.Act.{Act}
use Rattle.kr_view_scenes.specs.declared.act.Act.TheVariants as act
use Rattle.kr_view_scenes.specs.declared.run.TheConstants.{STEPS_DRAWN}
use Rattle.kr_view_scenes.specs.Scenes.{NumberedStep}

-- What is done at a move in the state s: an operation with its reply, or a purge with whether its ghost may be purged.
abbrev pub act_at : GhostProtocol → GhostState → Move → Act
act_at p s (move.Attempt e) = act.Attempt e (step p s e.txn e.op).0
act_at p s (move.Purge k) = act.Purge k (may_purge p s k)

-- The state after it.
abbrev pub after : GhostProtocol → GhostState → Move → GhostState
after p s (move.Attempt e) = (step p s e.txn e.op).1
after p s (move.Purge k) = purged p s k

-- The state after all of these moves.
abbrev pub after_all : GhostProtocol → GhostState → List Move → GhostState
after_all p s [] = s
after_all p s (m ∷ moves) = after_all p (after p s m) moves

-- What is done at the moves from s, one after another.
abbrev pub acts : GhostProtocol → GhostState → List Move → List Act
acts p s [] = []
acts p s (m ∷ moves) = act_at p s m ∷ acts p (after p s m) moves

-- The moves that are drawn of their run under p from the opening map: the last `STEPS_DRAWN`, in order.
abbrev pub drawn_moves : GhostProtocol → Map → List Move → List NumberedStep
drawn_moves p opening moves = drop (length moves - STEPS_DRAWN) (enumerate_from 1 (acts p (opened opening) moves))
