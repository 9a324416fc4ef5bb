-- The log of moves.
use Rattle.std.specs.Prelude.{◌≡◌, List, [], ◌∷◌, ◌++◌, refl}
use Rattle.kr_model.specs.Log.{Log, log_after, logged}
use Rattle.kr_ghost.specs.declared.moves.Move.{Move}
use Rattle.kr_ghost.specs.declared.moves.Move.TheVariants.{Attempt, Purge}
use Rattle.kr_ghost.specs.Protocol.{GhostProtocol}
use Rattle.kr_ghost.specs.Run.{run}
use Rattle.kr_ghost.specs.State.{GhostState}
use Rattle.kr_ghost.specs.Step.{purged, step}

-- The log after moves.
abbrev pub log_run : GhostProtocol → GhostState → Log → List Move → Log
log_run p s lg moves = log_after lg (let r = run p s moves in r.history)

pub log_on : (p : GhostProtocol) (s : GhostState) (lg : Log) (xs ys : List Move) → log_run p s lg (xs ++ ys) ≡ log_run p (let r = run p s xs in r.last) (log_run p s lg xs) ys
log_on p s lg [] ys = refl
log_on p s lg (Attempt e ∷ xs) ys = log_on p (step p s e.txn e.op).1 (logged lg (e, (step p s e.txn e.op).0)) xs ys
log_on p s lg (Purge k ∷ xs) ys = log_on p (purged p s k) lg xs ys
