-- What a closed engine shows.
use Rattle.std.specs.Prelude.{◌≡◌, ◌==◌, ◌&&◌, ℕ, ◌<◌, Bool, true, List, Option, All, map, length, nat_lt, nat_le}
use mathlib.Core.List.{IsPrefix}
use Rattle.kr_model.specs.Protocol.{Protocol}
use Rattle.kr_model.specs.Map.{Map}
use Rattle.kr_model.specs.State.{State}
use Rattle.kr_records.specs.declared.name.Entry.{Entry}
use Rattle.kr_records.specs.declared.notes.SeatNote.{SeatNote}
use Rattle.kr_records.specs.declared.closing.History.{History}
use Rattle.kr_records.specs.Histories.{IsHistory, AreOfOneSeat, IsSerialHistory, entries_of}
use Rattle.kr_records.specs.Cores.{CountsAre, AreBegun, AreBegunByOne, LastAre, AreOfSeats, seat_at}
use Rattle.kr_records.specs.Seats.{Held}

-- What a seat that left keeps: its number, how many receipts it has, the place of the last of them, and its view, the history that it has seen.
pub record Lent : Type 0 where
  pub seat : ℕ
  pub count : ℕ
  pub last : Option ℕ
  pub view : List Entry

-- What a seat keeps of its own part where it leaves: all but the transaction that it speaks for.
abbrev pub lent : Held → Lent
lent h = record { seat = h.seat; count = h.count; last = h.last; view = h.view }

-- Whether a share may be of this engine: its seat was given and has left, the entries noted of the seat are as many as its receipts, and it has seen no more than there is.
abbrev pub fits : List SeatNote → List Entry → Lent → Bool
fits seats es s = nat_lt s.seat (length seats) && ((seat_at seats s.seat).left && (((seat_at seats s.seat).count == s.count) && nat_le (length s.view) (length es)))

-- The share's seat was given and is noted as having left, the history begins with what the share has seen, and has as many entries of its seat as it has receipts.
pub record StandsIn (seats : List SeatNote) (es : List Entry) (s : Lent) : Type 0 where
  pub given : s.seat < length seats
  pub left : (seat_at seats s.seat).left ≡ true
  pub begins : IsPrefix s.view es
  pub own : entries_of s.seat es ≡ s.count

-- The entries are a run of granted steps under the engine's table from the opening map; the index, the unfinished transactions and the locks are those of its end. All entries of one transaction are of one seat, and the transactions that committed are serializable in commit order.
-- Of each seat the count is the number of its entries, and the last number is the one that it began last: there are numbers in the order in which they were begun, none by two seats, and each entry's transaction is one that the entry's seat began. Each seat that began one is shown. Each of the shares stands in it, so its seat is shown as having left.
pub record IsClosed (p : Protocol) (opening : Map) (h : History) (shares : List Lent) : Type 0 where
  pub state : State
  pub run : IsHistory p opening h.entries.items state
  pub index : h.index ≡ state.map
  pub unfinished : h.unfinished ≡ map (λ a. a.0) state.active
  pub locks : h.locks.items ≡ state.locks
  pub counts : CountsAre h.seats.items h.entries.items
  pub numbers : List (ℕ × ℕ)
  pub begun : AreBegun numbers h.entries.items
  pub by_one : AreBegunByOne numbers
  pub lasts : LastAre numbers h.seats.items
  pub given : AreOfSeats numbers h.seats.items
  pub one_seat : AreOfOneSeat h.entries.items
  pub serial : IsSerialHistory opening h.entries.items state
  pub stand : All (StandsIn h.seats.items h.entries.items) shares
