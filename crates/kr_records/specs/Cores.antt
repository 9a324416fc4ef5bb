-- What contracts see of what lies under the lock.
use Rattle.std.specs.Prelude.{◌≡◌, ◌==◌, ℕ, ◌+◌, ◌<◌, ◌≤◌, Bool, true, false, not, List, Option, Some, None, All, length, filter, is_some, slice_index_or, if◌then◌else◌, suc, [], ◌∷◌}
use Rattle.kr_model.specs.declared.Event.{Event}
use Rattle.kr_model.specs.declared.Op.{Op}
use Rattle.kr_model.specs.Protocol.{Protocol}
use Rattle.kr_model.specs.Map.{Map, IsMap}
use Rattle.kr_model.specs.State.{State, active_of, has_ended}
use Rattle.kr_model.specs.Step.{is_end}
use Rattle.kr_records.specs.declared.name.Entry.{Entry}
use Rattle.kr_records.specs.declared.notes.SeatNote.{SeatNote}
use Rattle.kr_records.specs.declared.numbers.Number.{Number}
use Rattle.kr_records.specs.Histories.{IsHistory, entries_of}
use Rattle.kr_records.specs.Numbers.{begun_by, is_begun, was_begun, ends_kept, HaveEnds}

-- The machine's protocol and state, the entries of the used places, the numbers that were begun, each with its seat, what is noted of each seat, how many places are kept for the ends of transactions, and the operations that wait.
pub record Shown (P : Type 0) : Type 0 where
  pub protocol : P
  pub state : State
  pub entries : List Entry
  pub numbers : List (ℕ × ℕ)
  pub seats : List SeatNote
  pub kept : ℕ
  pub waiting : List Event

-- What is noted of a seat that was never given.
abbrev pub no_seat : SeatNote
no_seat = record { count = 0; last = None; left = false }

abbrev pub seat_at : List SeatNote → ℕ → SeatNote
seat_at seats k = slice_index_or seats k no_seat

-- Each seat's count is the number of its entries.
abbrev pub CountsAre : List SeatNote → List Entry → Type 0
CountsAre seats es = (k : ℕ) → (seat_at seats k).count ≡ entries_of k es

-- The number of these that the seat k began last, or `was` where it began none; the numbers stand in the order in which they were begun.
abbrev pub last_from : Option ℕ → ℕ → List (ℕ × ℕ) → Option ℕ
last_from was k [] = was
last_from was k (n ∷ ns) = last_from (if n.1 == k then Some n.0 else was) k ns

-- The number of these that the seat k began last, if it began one.
abbrev pub last_begun : ℕ → List (ℕ × ℕ) → Option ℕ
last_begun k numbers = last_from None k numbers

-- What is noted of each seat as its last number is the number that it began last, and none where it began none.
abbrev pub LastAre : List (ℕ × ℕ) → List SeatNote → Type 0
LastAre numbers seats = (k : ℕ) → (seat_at seats k).last ≡ last_begun k numbers

-- Each of these numbers was begun by one of the seats.
abbrev pub AreOfSeats : List (ℕ × ℕ) → List SeatNote → Type 0
AreOfSeats numbers seats = All (λ n. n.1 < length seats) numbers

-- No number was begun by two seats.
abbrev pub AreBegunByOne : List (ℕ × ℕ) → Type 0
AreBegunByOne numbers = (t j k : ℕ) → is_begun numbers t j ≡ true → is_begun numbers t k ≡ true → j ≡ k

-- Each entry's transaction was begun by the entry's seat.
abbrev pub AreBegun : List (ℕ × ℕ) → List Entry → Type 0
AreBegun numbers es = All (λ e. is_begun numbers e.event.txn e.seat ≡ true) es

-- The number that a seat began last was begun by it.
abbrev pub LastAreOwn : List (ℕ × ℕ) → List SeatNote → Type 0
LastAreOwn numbers seats = (k t : ℕ) → (seat_at seats k).last ≡ Some t → is_begun numbers t k ≡ true

-- How many kept places an operation gives up: one where it ends its transaction.
abbrev pub freed : Op → ℕ
freed o = if is_end o then 1 else 0

-- How many of the numbers are of transactions that haven't ended.
abbrev pub unended : State → List (ℕ × ℕ) → ℕ
unended s [] = 0
unended s (n ∷ ns) = if has_ended s n.0 then unended s ns else suc (unended s ns)

-- Whether the transaction is one, and active.
abbrev pub is_active : State → Option ℕ → Bool
is_active s None = false
is_active s (Some t) = is_some (active_of s t)

-- The operations of others than t.
abbrev pub without : ℕ → List Event → List Event
without t es = filter (λ e. not (e.txn == t)) es

-- What always holds under the lock, for an engine with this table, this opening map and this row of places; own is the table of the machine's protocol.
pub record IsCore (p : Protocol) (opening : Map) (places : List ℕ) (own : Protocol) (pending : Option Event) (s : State) (es : List Entry) (numbers : List Number) (seats : List SeatNote) (kept : ℕ) : Type 0 where
  -- the machine goes by the engine's table
  pub table : own ≡ p
  -- no step is ready
  pub at_rest : pending ≡ None
  -- the keys of the opening map rise
  pub is_map : IsMap opening
  -- the entries are a run from the opening map to the state
  pub history : IsHistory p opening es s
  -- each seat's count is the number of its entries
  pub counts : CountsAre seats es
  -- the last number that is noted of a seat is the number that it began last
  pub lasts : LastAre (begun_by numbers) seats
  -- each number was begun by a seat that was given
  pub given : AreOfSeats (begun_by numbers) seats
  -- each entry's transaction was begun by the entry's seat
  pub begun : AreBegun (begun_by numbers) es
  -- a transaction that has ended was begun
  pub ended : (t : ℕ) → has_ended s t ≡ true → was_begun (begun_by numbers) t ≡ true
  -- each number has the memory of its end's entry exactly where its transaction hasn't ended
  pub ends : HaveEnds s numbers
  -- a place is kept for each of these ends
  pub kept_is : kept ≡ ends_kept numbers
  -- the row has the places of the entries and the kept ones
  pub room : length es + kept ≤ length places
