-- What a step that has its memory keeps in the machine, and what contracts see of the state meanwhile.
use Rattle.std.specs.Prelude.{◌≡◌, ℕ, ◌+◌, ◌<◌, ◌≤◌, List, Option, Some, None, IfSome, IsTrue, if◌then◌else◌, Vec}
use Rattle.std.specs.Vec.{vec_len, vec_capacity}
use Rattle.std.specs.declared.alloc.Global.{Global}
use Rattle.std.specs.Ordering.{nat_cmp}
use Rattle.std.specs.FinMap.{find, put}
use Rattle.kr_model.specs.Protocol.{Protocol}
use Rattle.kr_model.specs.Map.{Map, restore_all}
use Rattle.kr_model.specs.Locks.{Locks, IsLocks, release, add_once, AreWithin, HasNoNone}
use Rattle.kr_model.specs.State.{State, Active}
use Rattle.kr_model.specs.Step.{step}
use Rattle.kr_model.specs.declared.Op.{Op}
use Rattle.kr_model.specs.declared.Op.TheVariants as op
use Rattle.kr_txn.specs.declared.Standing.{Standing}
use Rattle.kr_txn.specs.EndedNumbers.{EndedNumbers}
use Rattle.kr_txn.specs.Standings.{active_of, entries, IsInOrder}
use Rattle.kr_plan.specs.Holds.{put_back, HoldsSide}
use Rattle.kr_touch.specs.Attempts.{IsRowOf}
use Rattle.kr_touch.specs.Effects.{effect_of, map_back, standing_back}
use Rattle.kr_touch.specs.Pins.{changes_of, all_changes_of, taken_pins}
use Rattle.kr_touch.specs.Room.{HasRoomIn, HasFirstRoom}
use Rattle.kr_machine.specs.declared.pending.Pending.{Pending}
use Rattle.kr_machine.specs.declared.pending.PendingPart.{PendingPart}
use Rattle.kr_machine.specs.declared.pending.PendingPart.TheVariants as part
use Rattle.kr_touch.specs.declared.granted.GrantedTouch.{GrantedTouch}
use Rattle.kr_touch.specs.Parts.{ended_by, op_of_touch}

-- The state after an operation of t, who stands as a says, where es are the other transactions.
abbrev pub after_op : Map → Locks → List ℕ → List (ℕ × Active) → ℕ → Active → Op → State
after_op m real ended es t a op.Commit = record { map = m; locks = release real t; ended = add_once t ended; active = es }
after_op m real ended es t a op.Abort = record { map = restore_all m a.changes; locks = release real t; ended = add_once t ended; active = es }
after_op m real ended es t a op.Back = record { map = map_back m a.changes; locks = real; ended = ended; active = put nat_cmp t (standing_back a) es }
after_op m real ended es t a o = let e = effect_of m a o in record { map = e.map; locks = real; ended = ended; active = put nat_cmp t e.standing es }

-- The locks before the requests of what t was granted were kept.
abbrev pub put_back_both : Locks → ℕ → GrantedTouch → Locks
put_back_both real t g = put_back (put_back real t g.plan.next g.next_was) t g.plan.current g.current_was

-- The locks before a pending step of t, by what it comes to: only one that requested locks keeps some.
abbrev pub locks_before : Locks → ℕ → PendingPart → Locks
locks_before real t (part.End x) = real
locks_before real t part.Back = real
locks_before real t (part.Touch g) = put_back_both real t g

-- The locks as contracts see them: those before a pending step.
abbrev pub shown_locks : Option Pending → Locks → Locks
shown_locks None real = real
shown_locks (Some p) real = locks_before real p.event.txn p.part

-- The active transactions as contracts see them: those before a pending step.
abbrev pub shown_active : Option Pending → List (ℕ × Active) → List (ℕ × Active)
shown_active None es = es
shown_active (Some p) es = if p.was_active then put nat_cmp p.event.txn (active_of p.standing) es else es

-- The state as contracts see it: that before a pending step.
abbrev pub shown : Option Pending → Map → Locks → List ℕ → List (ℕ × Active) → State
shown p m real ended es = record { map = m; locks = shown_locks p real; ended = ended; active = shown_active p es }

-- What t requested, who stands as s says, is granted, and has its memory.
pub record IsGranted (m : Map) (real : Locks) (t : ℕ) (s : Standing) (g : GrantedTouch) : Type 0 where
  -- the plan's row is that of the index
  pub row : IsRowOf m (active_of s).scan (op_of_touch g.touch) g.plan.row
  -- the lock that the step keeps on the next name, if it keeps one, is held
  pub next_held : HoldsSide real t g.plan.next
  -- and so is that on the current name
  pub current_held : HoldsSide (put_back real t g.plan.next g.next_was) t g.plan.current
  -- there is room for what the operation adds
  pub room : HasRoomIn s (op_of_touch g.touch)
  -- and for the first row of a scan that begins
  pub first_room : HasFirstRoom g.first_rows (op_of_touch g.touch)

-- The operation of a pending step, by what it comes to.
abbrev pub pending_op : PendingPart → Op
pending_op (part.End x) = ended_by x
pending_op part.Back = op.Back
pending_op (part.Touch g) = op_of_touch g.touch

-- Finish has what it needs, by what the pending step comes to: room in the list for a transaction that goes on, and what was granted.
abbrev pub CanFinish : Map → Locks → Vec Standing Global → ℕ → Standing → PendingPart → Type 0
CanFinish m real active t s (part.End x) = Unit {0}
CanFinish m real active t s part.Back = vec_len active < vec_capacity active
CanFinish m real active t s (part.Touch g) = (vec_len active < vec_capacity active) × IsGranted m real t s g

-- The pins that a pending step has taken, by what it comes to.
abbrev pub pending_pins : PendingPart → ℕ → ℕ
pending_pins (part.End x) q = 0
pending_pins part.Back q = 0
pending_pins (part.Touch g) q = taken_pins (op_of_touch g.touch) g.plan.row q

-- A pending step is granted, and has all its memory.
pub record IsReserved (p : Protocol) (m : Map) (pins : ℕ → ℕ) (real : Locks) (ended : EndedNumbers) (active : Vec Standing Global) (d : Pending) : Type 0 where
  -- the state that finish makes of the parts is that after the step
  pub stepped : ◌≡◌ {A = State} (let o = step p (shown (Some d) m real ended.numbers (entries active.items)) d.event.txn d.event.op in o.1) (after_op m real ended.numbers (entries active.items) d.event.txn (active_of d.standing) d.event.op)
  -- the transaction that was taken out is that of the event
  pub itself : d.standing.txn ≡ d.event.txn
  -- and so is the operation, by what it comes to
  pub same_op : pending_op d.part ≡ d.event.op
  -- the transaction isn't in the list meanwhile
  pub apart : find nat_cmp d.event.txn (entries active.items) ≡ None
  -- the modes of the locks before the step are at most the protocol's count
  pub within : AreWithin p.count (shown_locks (Some d) real)
  -- and above 0
  pub no_none : HasNoNone (shown_locks (Some d) real)
  -- those locks are in order, by name and then by transaction
  pub in_order : IsLocks (shown_locks (Some d) real)
  -- the changes before the step are those of the list and the transaction's own
  pub noted : (q : ℕ) → all_changes_of (shown_active (Some d) (entries active.items)) q ≡ all_changes_of (entries active.items) q + changes_of (active_of d.standing).changes q
  -- when it ends, the transaction has room among the ended ones, beside each of the list
  pub room_ended : vec_len active + 1 ≤ ended.room
  -- cancel has room to put it back in the list
  pub room_back : IsTrue d.was_active → vec_len active < vec_capacity active
  -- finish has what the step needs
  pub can_finish : CanFinish m real active d.event.txn d.standing d.part

-- Each change of an active transaction has a pin of its key, and a pending step has one of the key that it may change.
abbrev pub HasPins : Option Pending → (ℕ → ℕ) → List (ℕ × Active) → Type 0
HasPins None pins es = (q : ℕ) → pins q ≡ all_changes_of es q
HasPins (Some p) pins es = (q : ℕ) → pins q ≡ all_changes_of es q + changes_of (active_of p.standing).changes q + pending_pins p.part q

-- What always holds of a machine's parts.
pub record IsMachine (p : Protocol) (m : Map) (pins : ℕ → ℕ) (real : Locks) (ended : EndedNumbers) (active : Vec Standing Global) (pending : Option Pending) : Type 0 where
  -- the locks are in order, by name and then by transaction
  pub in_order : IsLocks real
  -- their modes are at most the protocol's count
  pub within : AreWithin p.count real
  -- and above 0
  pub no_none : HasNoNone real
  -- the active transactions rise by number
  pub standing : IsInOrder active.items
  -- each of them has room among the ended ones
  pub room : vec_len active ≤ ended.room
  -- each change has its pin, and so has the key that a pending step may change
  pub has_pins : HasPins pending pins (entries active.items)
  -- a pending step is granted, and has all its memory
  pub reserved : IfSome pending (IsReserved p m pins real ended active)
