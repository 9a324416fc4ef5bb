-- What a seat's calls show.
use Rattle.std.specs.Prelude.{◌≡◌, ℕ, ◌+◌, ◌<◌, ◌≤◌, true, false, List, [], ◌∷◌, ◌++◌, length, Option, Some}
use mathlib.Core.List.{IsPrefix}
use Rattle.kr_model.specs.declared.Event.{Event}
use Rattle.kr_model.specs.declared.Op.{Op}
use Rattle.kr_model.specs.declared.Reply.{Reply}
use Rattle.kr_model.specs.Protocol.{Protocol}
use Rattle.kr_model.specs.Map.{Map}
use Rattle.kr_model.specs.State.{State}
use Rattle.kr_model.specs.Step.{step}
use Rattle.kr_model.specs.Run.{is_granted}
use Rattle.kr_deadlock.specs.Waits.{IsCycle}
use Rattle.kr_records.specs.declared.name.Entry.{Entry}
use Rattle.kr_records.specs.declared.faults.Receipt.{Receipt}
use Rattle.kr_records.specs.declared.faults.EngineFault.{EngineFault}
use Rattle.kr_records.specs.declared.faults.EngineFault.TheVariants.{Deadlock, Refused}
use Rattle.kr_records.specs.Histories.{IsHistory, AreOfOneSeat, entries_of, entry, event}
use Rattle.kr_records.specs.Waits.{in_the_way, blockers_now}
use Rattle.kr_records.specs.Cores.{is_active, seat_at}
use Rattle.kr_records.specs.declared.notes.SeatNote.{SeatNote}

-- A seat's own part: its number, the transaction that it speaks for, how many receipts it has, the place of the last of them, and its view, the history that it has seen.
pub record Held : Type 0 where
  pub seat : ℕ
  pub speaks : Option ℕ
  pub count : ℕ
  pub last : Option ℕ
  pub view : List Entry

-- What a seat keeps fits what is noted of seats and the history: it has seen no more than there is, the seat was given, it has as many receipts as are noted, and it speaks for the number that is noted as its last.
abbrev pub FitsNotes : List SeatNote → List Entry → Held → Type 0
FitsNotes seats es h = (length h.view ≤ length es) × (h.seat < length seats) × ((seat_at seats h.seat).count ≡ h.count) × ((seat_at seats h.seat).last ≡ h.speaks)

-- The history up to the receipt's place is a run under the engine's table. It begins with all that the seat had seen, and ends with the receipt, which is of the transaction that the seat speaks for and of the operation asked. Of this seat it has just as many entries as the seat has receipts. It is then what the seat has seen.
pub record Shows (p : Protocol) (opening : Map) (old new : Held) (o : Op) (r : Receipt) : Type 0 where
  pub state : State
  pub txn : ℕ
  pub between : List Entry
  pub run : IsHistory p opening new.view state
  pub speaks : old.speaks ≡ Some txn
  pub view : new.view ≡ (old.view ++ between) ++ entry old.seat (event txn o) r.reply ∷ []
  pub event_is : r.event ≡ event txn o
  pub place : r.place ≡ length (old.view ++ between)
  pub own : entries_of old.seat new.view ≡ new.count
  pub others : new ≡ record old { count = old.count + 1; last = Some r.place; view = new.view }

-- The reply is the definition's, and isn't granted, at the end of a history under the engine's table that begins with all that the seat had seen. It is then what the seat has seen.
pub record IsRefused (p : Protocol) (opening : Map) (old new : Held) (o : Op) (r : Reply) : Type 0 where
  pub state : State
  pub txn : ℕ
  pub run : IsHistory p opening new.view state
  pub begins : IsPrefix old.view new.view
  pub speaks : old.speaks ≡ Some txn
  pub reply_is : r ≡ (step p state txn o).0
  pub not_granted : is_granted r ≡ false
  pub others : new ≡ record old { view = new.view }

-- At the end of a history under the engine's table that begins with all that the seat had seen, each transaction of the cycle has an operation that the next blocks, the last's blocked by the first; the first is the seat's, with the operation asked. It is then what the seat has seen.
pub record IsDeadlock (p : Protocol) (opening : Map) (old new : Held) (o : Op) (cycle : List ℕ) : Type 0 where
  pub state : State
  pub txn : ℕ
  pub waiting : List Event
  pub run : IsHistory p opening new.view state
  pub begins : IsPrefix old.view new.view
  pub speaks : old.speaks ≡ Some txn
  pub is_cycle : IsCycle (blockers_now (in_the_way p state) (event txn o ∷ waiting)) txn cycle
  pub others : new ≡ record old { view = new.view }

-- What a fault tells of one attempt: a refusal as above, and at any other the seat is as it was.
abbrev pub SeesFault : Protocol → Map → Held → Held → Op → EngineFault → Type 0
SeesFault p opening old new o (Refused r) = IsRefused p opening old new o r
SeesFault p opening old new o _ = new ≡ old

-- What a fault tells of a call that may have waited: a refusal or a deadlock as above, and at any other the seat may have seen more.
abbrev pub ToldFault : Protocol → Map → Held → Held → Op → EngineFault → Type 0
ToldFault p opening old new o (Refused r) = IsRefused p opening old new o r
ToldFault p opening old new o (Deadlock cycle) = IsDeadlock p opening old new o cycle
ToldFault p opening old new o _ = new ≡ record old { view = new.view }

-- At the end of a history under the engine's table that begins with all that the seat has seen, that has no further entry of the seat, and in which each transaction is of one seat, the transaction that it speaks for is active.
pub record IsOpen (p : Protocol) (opening : Map) (held : Held) : Type 0 where
  pub state : State
  pub entries : List Entry
  pub run : IsHistory p opening entries state
  pub begins : IsPrefix held.view entries
  pub own : entries_of held.seat entries ≡ held.count
  pub one_seat : AreOfOneSeat entries
  pub active : is_active state held.speaks ≡ true

-- At the end of such a history, the transaction that it speaks for isn't active.
pub record IsIdle (p : Protocol) (opening : Map) (held : Held) : Type 0 where
  pub state : State
  pub entries : List Entry
  pub run : IsHistory p opening entries state
  pub begins : IsPrefix held.view entries
  pub own : entries_of held.seat entries ≡ held.count
  pub one_seat : AreOfOneSeat entries
  pub idle : is_active state held.speaks ≡ false
