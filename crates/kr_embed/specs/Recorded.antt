-- A session under a table with ghosts: the reply to an operation goes into the log when the next step comes, so that neither is copied.
use Rattle.std.specs.Prelude.{◌≡◌, ℕ, List, Option, Some, None, IfSome}
use Rattle.kr_model.specs.declared.Event.{Event}
use Rattle.kr_model.specs.declared.Op.{Op}
use Rattle.kr_model.specs.declared.Op.TheVariants as op
use Rattle.kr_model.specs.declared.Reply.{Reply}
use Rattle.kr_model.specs.Log.{Log, logged}
use Rattle.kr_model.specs.Run.{Entry}
use Rattle.kr_model.proofs.LogSteps.{IsLog}
use Rattle.kr_ghost.specs.State.{GhostState}
use Rattle.kr_txn.specs.Logs.{LogWithRoom, MayNote}

-- The log has room for a step of t: an abort needs none, nor does a change undone.
abbrev pub HasRoomFor : LogWithRoom → ℕ → Op → Type 0
HasRoomFor l t op.Abort = Unit {0}
HasRoomFor l t op.Back = Unit {0}
HasRoomFor l t o = l.ready ≡ Some t

-- The log once the last reply is noted, where it is owed to it.
abbrev pub settled : Log → Option Event → Reply → Log
settled l None last = l
settled l (Some e) last = logged l (e, last)

-- A reply that is owed doesn't commit its transaction, so what has committed stays when it is noted.
abbrev pub IsOwed : LogWithRoom → Reply → Event → Type 0
IsOwed l last e = MayNote l e last × ((logged l.log (e, last)).committed ≡ l.log.committed)

-- What always holds: the log is that of a history which leads to the state, and may note what it is owed.
pub record IsRecorded (s : GhostState) (l : LogWithRoom) (owed : Option Event) (last : Reply) : Type 0 where
  pub history : List Entry
  pub is_log : IsLog history s.state (settled l.log owed last)
  pub is_owed : IfSome owed (IsOwed l last)
