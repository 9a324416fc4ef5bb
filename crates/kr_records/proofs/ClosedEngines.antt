-- What a closed engine shows, from what holds of its core.
use Rattle.std.proofs.Common.{◌≡◌, ℕ, List, sym, subst}
use Rattle.std.specs.Prelude.{All, map}
use Rattle.kr_model.specs.Protocol.{Protocol}
use Rattle.kr_model.specs.Map.{Map}
use Rattle.kr_model.specs.State.{State}
use Rattle.kr_records.specs.declared.name.Entry.{Entry}
use Rattle.kr_records.specs.declared.notes.SeatNote.{SeatNote}
use Rattle.kr_records.specs.declared.closing.History.{History}
use Rattle.kr_records.specs.Histories.{IsHistory, AreOfOneSeat, IsSerialHistory}
use Rattle.kr_records.specs.Cores.{CountsAre, AreBegun, AreBegunByOne, LastAre, AreOfSeats}
use Rattle.kr_records.specs.Closed.{Lent, StandsIn, IsClosed}

-- A history with these entries and seats is a closed engine's, where they are those of a core in this state.
pub closed_of : (p : Protocol) (opening : Map) (shares : List Lent) (h : History) (es : List Entry) (seats : List SeatNote) (s : State) → h.entries.items ≡ es → h.seats.items ≡ seats → h.index ≡ s.map → h.unfinished ≡ map (λ a. a.0) s.active → h.locks.items ≡ s.locks → IsHistory p opening es s → CountsAre seats es → (numbers : List (ℕ × ℕ)) → AreBegun numbers es → AreBegunByOne numbers → LastAre numbers seats → AreOfSeats numbers seats → AreOfOneSeat es → IsSerialHistory opening es s → All (StandsIn seats es) shares → IsClosed p opening h shares
closed_of p opening shares h es seats s entries_are seats_are index unfinished locks run counts numbers begun by_one lasts given one_seat serial stand = record {
  state = s;
  run = subst (λ (l : List Entry). IsHistory p opening l s) (sym entries_are) run;
  index = index;
  unfinished = unfinished;
  locks = locks;
  counts = subst (λ (l : List Entry). CountsAre h.seats.items l) (sym entries_are) (subst (λ (ns : List SeatNote). CountsAre ns es) (sym seats_are) counts);
  numbers = numbers;
  begun = subst (AreBegun numbers) (sym entries_are) begun;
  by_one = by_one;
  lasts = subst (LastAre numbers) (sym seats_are) lasts;
  given = subst (AreOfSeats numbers) (sym seats_are) given;
  one_seat = subst AreOfOneSeat (sym entries_are) one_seat;
  serial = subst (λ (l : List Entry). IsSerialHistory opening l s) (sym entries_are) serial;
  stand = subst (λ (l : List Entry). All (StandsIn h.seats.items l) shares) (sym entries_are) (subst (λ (ns : List SeatNote). All (StandsIn ns es) shares) (sym seats_are) stand);
}
