-- The history of an engine.
use Rattle.std.specs.Prelude.{◌≡◌, ◌==◌, ℕ, suc, true, List, [], ◌∷◌, map, All, Contains, if◌then◌else◌}
use Rattle.kr_model.specs.declared.Event.{Event}
use Rattle.kr_model.specs.declared.Op.{Op}
use Rattle.kr_model.specs.declared.Reply.{Reply}
use Rattle.kr_model.specs.Protocol.{Protocol}
use Rattle.kr_model.specs.Map.{Map}
use Rattle.kr_model.specs.State.{State}
use Rattle.kr_model.specs.Run as model
use Rattle.kr_model.specs.Serial.{IsSerialRun}
use Rattle.kr_records.specs.declared.name.Entry.{Entry}

abbrev pub event : ℕ → Op → Event
event txn op = record { txn = txn; op = op }

abbrev pub entry : ℕ → Event → Reply → Entry
entry seat event reply = record { seat = seat; event = event; reply = reply }

-- The entries as events with their replies.
abbrev pub events_with_replies : List Entry → List model.Entry
events_with_replies es = map (λ e. (e.event, e.reply)) es

-- The entries are a run of granted steps from the opening map, which ends in the state.
pub record IsHistory (p : Protocol) (opening : Map) (es : List Entry) (s : State) : Type 0 where
  pub run : model.IsRun p opening (events_with_replies es) s
  pub granted : All (λ e. model.is_granted e.reply ≡ true) es

-- All entries of one transaction are of one seat.
abbrev pub AreOfOneSeat : List Entry → Type 0
AreOfOneSeat es = (d e : Entry) → Contains es d → Contains es e → d.event.txn ≡ e.event.txn → d.seat ≡ e.seat

-- The transactions that committed are serializable in commit order from the opening map; and the state's index, with the unfinished transactions rolled back, is the map that they leave.
abbrev pub IsSerialHistory : Map → List Entry → State → Type 0
IsSerialHistory opening es s = IsSerialRun opening (record { history = events_with_replies es; state = s })

-- How many entries are of this seat.
abbrev pub entries_of : ℕ → List Entry → ℕ
entries_of k [] = 0
entries_of k (e ∷ es) = if e.seat == k then suc (entries_of k es) else entries_of k es
