-- The log of a run with its room, as contracts see it.
use Rattle.std.specs.Prelude.{◌≡◌, ℕ, ◌+◌, ◌<◌, ◌≤◌, List, [], ◌∷◌, ◌++◌, Option, Some, None, is_some, IsTrue, IfSome, Vec, ◌⊎◌, slice_index_or}
use Rattle.std.specs.Vec.{vec_len, vec_capacity}
use Rattle.std.specs.Ordering.{nat_cmp}
use Rattle.std.specs.FinMap.{find}
use Rattle.std.specs.declared.alloc.Global.{Global}
use Rattle.kr_model.specs.declared.Event.{Event}
use Rattle.kr_model.specs.declared.Program.{Program}
use Rattle.kr_model.specs.declared.Reply.{Reply}
use Rattle.kr_model.specs.declared.Reply.TheVariants as reply
use Rattle.kr_model.specs.Run.{Answered}
use Rattle.kr_model.specs.Log.{Log, step_logged, end_logged, operations_so_far}
use Rattle.kr_txn.specs.declared.unfinished.Unfinished.{Unfinished}
use Rattle.kr_txn.specs.declared.unfinished.Ready.{Ready}
use Rattle.kr_txn.specs.declared.unfinished.Ready.TheVariants as ready
use Rattle.kr_txn.specs.declared.logging.Logging.{Logging}
use Rattle.kr_txn.specs.declared.logging.Logging.TheVariants.{Operation, Committing, Aborting, Nothing}
use Rattle.kr_txn.specs.Numbered as numbered
use Rattle.kr_txn.specs.Numbered.{IsPosition}

-- A log, and the transaction whose next operation and end have their memory.
pub record LogWithRoom : Type 0 where
  pub log : Log
  pub ready : Option ℕ

-- The number of an unfinished transaction.
abbrev pub number_of : Unfinished → ℕ
number_of u = u.txn

-- Its operations so far, with their answers.
abbrev pub operations_of : Unfinished → List Answered
operations_of u = u.operations.items

-- The unfinished transactions of a list, in its order: the number of each, and its operations so far.
abbrev pub entries : List Unfinished → List (ℕ × List Answered)
entries us = numbered.entries number_of operations_of us

-- The numbers rise, so each transaction stands in the list once.
abbrev pub IsInOrder : List Unfinished → Type 0
IsInOrder us = numbered.AreInOrder (entries us)

-- The transaction that has its memory.
abbrev pub txn_of : Ready → ℕ
txn_of (ready.Listed t i) = t
txn_of (ready.New u) = u.txn

-- There is room for one more operation of a transaction.
abbrev pub HasRoomForOne : Unfinished → Type 0
HasRoomForOne u = vec_len u.operations < vec_capacity u.operations

-- Transaction t is at place i of the list, and has room for one more operation there.
pub record HasRoomAt (us : List Unfinished) (t i : ℕ) : Type 0 where
  pub place : IsPosition number_of t us i
  pub operation : (d : Unfinished) → HasRoomForOne (slice_index_or us i d)

-- A transaction that isn't in the list has done nothing, and has room for its first operation, and for itself in the list.
pub record HasRoomAnew (us : Vec Unfinished Global) (u : Unfinished) : Type 0 where
  pub apart : find nat_cmp u.txn (entries us.items) ≡ None
  pub place : vec_len us < vec_capacity us
  pub operation : HasRoomForOne u
  pub anew : u.operations.items ≡ []

-- The next operation of a transaction has its memory.
abbrev pub HasMemory : Vec Unfinished Global → Ready → Type 0
HasMemory us (ready.Listed t i) = HasRoomAt us.items t i
HasMemory us (ready.New u) = HasRoomAnew us u

-- The same, and there is room for its program.
pub record IsReady (us : Vec Unfinished Global) (committed : Vec Program Global) (r : Ready) : Type 0 where
  pub memory : HasMemory us r
  pub program : vec_len us + vec_len committed + 1 ≤ vec_capacity committed

-- What always holds of a log's parts: each unfinished transaction has room for its program.
pub record HasRoom (us : Vec Unfinished Global) (committed : Vec Program Global) (ready : Option Ready) : Type 0 where
  pub in_order : IsInOrder us.items
  pub programs : vec_len us + vec_len committed ≤ vec_capacity committed
  pub is_ready : IfSome ready (IsReady us committed)

-- What an entry with this reply is to a log.
abbrev pub logged_as : Logging → Log → Event → Reply → Log
logged_as Operation l e a = step_logged l e.txn e.op a
logged_as Committing l e a = end_logged l e.txn (l.committed ++ record { txn = e.txn; operations = operations_so_far l e.txn } ∷ [])
logged_as Aborting l e a = end_logged l e.txn l.committed
logged_as Nothing l e a = l

-- A log may note this: a step has had room made for it, and the end of an unfinished transaction has room.
abbrev pub MayNoteAs : Logging → LogWithRoom → Event → Type 0
MayNoteAs Operation l e = l.ready ≡ Some e.txn
MayNoteAs Committing l e = (l.ready ≡ Some e.txn) ⊎ IsTrue (is_some (find nat_cmp e.txn l.log.unfinished))
MayNoteAs Aborting l e = Unit {0}
MayNoteAs Nothing l e = Unit {0}

-- The same, by the reply: of a step that is blocked or refused nothing is noted, nor of a change undone, and an abort needs no room.
abbrev pub MayNote : LogWithRoom → Event → Reply → Type 0
MayNote l e reply.Committed = MayNoteAs Committing l e
MayNote l e reply.Aborted = Unit {0}
MayNote l e (reply.Blocked us) = Unit {0}
MayNote l e (reply.Refused r) = Unit {0}
MayNote l e (reply.Undone left) = Unit {0}
MayNote l e a = l.ready ≡ Some e.txn
