-- What is told of the steps that weren't done.
use Rattle.std.specs.Prelude.{◌≡◌, ◌<◌, ◌≤◌, ◌+◌, ℕ, length, false, Option, None, is_some, if◌then◌else◌, List, [], ◌∷◌, All, Contains}
use mathlib.Core.List.{IsPrefix}
use Rattle.kr_model.specs.declared.Event.{Event}
use Rattle.kr_model.specs.declared.Op.{Op}
use Rattle.kr_model.specs.Protocol.{Protocol}
use Rattle.kr_model.specs.Map.{Map}
use Rattle.kr_model.specs.State.{State}
use Rattle.kr_model.specs.Step.{step}
use Rattle.kr_model.specs.Run as model
use Rattle.kr_deadlock.specs.Waits.{IsCycle}
use Rattle.kr_records.specs.Histories.{event, events_with_replies}
use Rattle.kr_records.specs.Waits.{in_the_way, blockers_now}
use Rattle.kr_records.specs.declared.name.Entry.{Entry}
use Rattle.kr_records.specs.Seats.{Held}
use Rattle.kr_records.specs.declared.closing.History.{History}
use Rattle.kr_records.specs.Closed.{Lent, IsClosed}
use Rattle.kr_threads.specs.declared.fault.RunFault.{RunFault}
use Rattle.kr_script.specs.declared.not_done.WhyNotDone.{WhyNotDone}
use Rattle.kr_script.specs.declared.not_done.WhyNotDone.TheVariants.{Deadlock, Refused}
use Rattle.kr_script.specs.declared.not_done.StepFault.{StepFault}
use Rattle.kr_workers.specs.Waits.{is_blocked_reply}
use Rattle.kr_workers.specs.declared.left_out.LeftOut.{LeftOut}
use Rattle.kr_workers.specs.Counts.{done_by, missed_before}
use Rattle.kr_workers.specs.Placed.{IsPast, IsUpTo}

-- A refusal's reply is the definition's to t's operation in this state, and is neither granted nor blocked: a step that is blocked waits. A deadlock's transactions are a cycle from t: each has an operation that the next blocks in this state, the last's blocked by t, whose own is this one.
abbrev pub IsCause : Protocol → State → ℕ → Op → WhyNotDone → Type 0
IsCause p s t o (Refused r) = (r ≡ (step p s t o).0) × ((model.is_granted r ≡ false) × (is_blocked_reply r ≡ false))
IsCause p s t o (Deadlock cycle) = (waiting : List Event) × IsCycle (blockers_now (in_the_way p s) (event t o ∷ waiting)) t cycle

-- The fault's cause is so at the end of a prefix of the history, which is a run from the opening map. In it stands each earlier step of the fault's transaction that has no fault of its own, and none that comes later.
pub record IsTold (p : Protocol) (opening : Map) (faults : List StepFault) (history : List model.Entry) (f : StepFault) : Type 0 where
  pub before : List model.Entry
  pub state : State
  pub begins : IsPrefix before history
  pub run : model.IsRun p opening before state
  pub cause : IsCause p state f.txn f.op f.cause
  pub placed : done_by f.txn (model.events_of before) + missed_before faults f.txn f.step + 1 ≡ f.step

-- The fault's cause is so at the end of this history, which is a run from the opening map.
pub record IsCaused (p : Protocol) (opening : Map) (history : List model.Entry) (f : StepFault) : Type 0 where
  pub state : State
  pub run : model.IsRun p opening history state
  pub cause : IsCause p state f.txn f.op f.cause

-- The fault's cause is so at the end of a prefix of the history, which reaches past the one place, and ends at the other at the latest.
pub record IsToldAt (p : Protocol) (opening : Map) (history : List model.Entry) (last next : Option ℕ) (f : StepFault) : Type 0 where
  pub before : List model.Entry
  pub begins : IsPrefix before history
  pub caused : IsCaused p opening before f
  pub past : IsPast before last
  pub up_to : IsUpTo before next

-- A step that was left out is told between its places.
abbrev pub IsLeftOut : Protocol → Map → List model.Entry → LeftOut → Type 0
IsLeftOut p opening history l = IsToldAt p opening history l.last l.next l.fault

-- A step that was left out, with the places between which it is told.
abbrev pub left_between : Option ℕ → Option ℕ → StepFault → LeftOut
left_between last next f = record { fault = f; last = last; next = next }

-- A step that was left out is told at the end of a prefix of what one of the shares has seen.
pub record IsToldToOne (p : Protocol) (opening : Map) (shares : List Lent) (l : LeftOut) : Type 0 where
  pub share : Lent
  pub among : Contains shares share
  pub told : IsLeftOut p opening (events_with_replies share.view) l

-- Each step that was left out is told at the end of a prefix of these entries.
abbrev pub AreTold : Protocol → Map → List Entry → List LeftOut → Type 0
AreTold p opening es ls = All (IsLeftOut p opening (events_with_replies es)) ls

-- What a worker keeps: its seat's own part; the place of the last step that its transaction did, the steps that it left out since then, and the place of the step that was done after these; and the steps that it left out before.
pub record Working : Type 0 where
  pub seat : Held
  pub last : Option ℕ
  pub recent : List StepFault
  pub passed : Option ℕ
  pub left_out : List LeftOut

-- The steps that a worker left out are told at the end of prefixes of what its seat has seen, which has both places.
pub record IsWorker (p : Protocol) (opening : Map) (w : Working) : Type 0 where
  pub last : IsPast (events_with_replies w.seat.view) w.last
  pub recent : All (IsToldAt p opening (events_with_replies w.seat.view) w.last w.passed) w.recent
  pub passed : IsPast (events_with_replies w.seat.view) w.passed
  pub left_out : AreTold p opening w.seat.view w.left_out

-- The place is that of the last entry of what was then seen, and none that was seen before has it.
pub record IsNext (old new : List Entry) (place : ℕ) : Type 0 where
  pub after : length old ≤ place
  pub within : place < length new

-- What contracts see of what a worker hands back: its seat's share, the steps that it left out, and why it gave up, where it did.
pub record Reported : Type 0 where
  pub share : Lent
  pub left_out : List LeftOut
  pub failed : Option RunFault

-- Why the first of these workers gave up that did.
abbrev pub first_failure : List Reported → Option RunFault
first_failure [] = None
first_failure (w ∷ ws) = if is_some w.failed then w.failed else first_failure ws

-- The history is a closed engine's, no transaction is active at its end, and each step that was left out is told at the end of a prefix of it.
pub record IsWorked (p : Protocol) (opening : Map) (h : History) (ls : List LeftOut) : Type 0 where
  pub shares : List Lent
  pub closed : IsClosed p opening h shares
  pub ended : h.unfinished ≡ []
  pub told : AreTold p opening h.entries.items ls
