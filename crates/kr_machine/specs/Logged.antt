-- What contracts see of a machine, and how its log goes with its state.
use Rattle.std.specs.Prelude.{◌≡◌, ℕ, Bool, true, false, Option, Some, IfSome, IsTrue, is_some}
use Rattle.std.specs.Ordering.{nat_cmp}
use Rattle.std.specs.FinMap.{find}
use Rattle.kr_model.specs.declared.Event.{Event}
use Rattle.kr_model.specs.declared.Op.{Op}
use Rattle.kr_model.specs.declared.Op.TheVariants as op
use Rattle.kr_model.specs.declared.Reply.{Reply}
use Rattle.kr_model.specs.declared.Reply.TheVariants as reply
use Rattle.kr_model.specs.Protocol.{Protocol}
use Rattle.kr_model.specs.State.{State, active_of}
use Rattle.kr_model.specs.Step.{step}
use Rattle.kr_model.specs.Log.{Log}
use Rattle.kr_model.specs.WellFormed.{IsState}
use Rattle.kr_txn.specs.Logs.{LogWithRoom, MayNote}
use Rattle.kr_machine.specs.declared.pending.DueReply.{DueReply}

-- A machine as contracts see it: its protocol, its state between two steps, what its log has of the steps so far, and the event of a step that is ready and not yet done.
pub record Seen (P : Type 0) : Type 0 where
  pub protocol : P
  pub state : State
  pub log : Log
  pub pending : Option Event

-- The log has a program of t.
abbrev pub IsNoted : LogWithRoom → ℕ → Type 0
IsNoted l t = is_some (find nat_cmp t l.log.unfinished) ≡ true

-- A reply for the log and for the caller.
abbrev pub twice : Reply → DueReply
twice r = record { noted = r; told = r }

-- The reply of a step that is ready is kept, and the log may note it.
abbrev pub IsDue : Protocol → State → LogWithRoom → Option DueReply → Event → Type 0
IsDue p s l due e = (due ≡ Some (twice (step p s e.txn e.op).0)) × MayNote l e (step p s e.txn e.op).0

-- What always holds of a machine: its state is well formed, its log has the programs of exactly the active transactions, and is ready where a step is.
pub record IsLogged (p : Protocol) (s : State) (pending : Option Event) (l : LogWithRoom) (due : Option DueReply) : Type 0 where
  -- the state is well formed
  pub well_formed : IsState p s
  -- the log has a program of a transaction exactly where it is active
  pub same : (t : ℕ) → is_some (find nat_cmp t l.log.unfinished) ≡ is_some (active_of s t)
  -- where a step is ready, its reply is kept, and the log may note it
  pub noted : IfSome pending (IsDue p s l due)

-- Whether a reply has a list: the rows of a scan, or the blockers.
abbrev pub has_list : Reply → Bool
has_list (reply.Rows rows) = true
has_list (reply.Blocked us) = true
has_list _ = false

-- This reply to an operation may be kept for the log: one that ends an active transaction needs no room, nor does a change undone.
abbrev pub MayKeep : LogWithRoom → Op → Bool → ℕ → Reply → Type 0
MayKeep l op.Commit is_active t a = (a ≡ reply.Committed) × (IsTrue is_active → IsNoted l t)
MayKeep l op.Abort is_active t a = (a ≡ reply.Aborted) × (IsTrue is_active → IsNoted l t)
MayKeep l op.Back is_active t a = (left : ℕ) × (a ≡ reply.Undone left)
MayKeep l _ is_active t a = Unit {0}
