-- Runs of scripts in several threads.
use Rattle.std.specs.Prelude.{◌≡◌, true, List, [], map, All}
use Rattle.kr_model.specs.declared.Event.{Event}
use Rattle.kr_model.specs.Protocol.{Protocol}
use Rattle.kr_model.specs.Map.{Map}
use Rattle.kr_model.specs.State.{State}
use Rattle.kr_model.specs.Serial.{AreSerial}
use Rattle.kr_model.specs.Run as model
use Rattle.kr_records.specs.declared.name.Entry.{Entry}
use Rattle.kr_records.specs.declared.closing.History.{History}
use Rattle.kr_records.specs.Closed.{IsClosed, Lent}
use Rattle.kr_records.specs.Histories.{events_with_replies}
use Rattle.kr_judge.specs.declared.ran.Ran.{Ran}
use Rattle.kr_workers.specs.Follows.{Follows}
use Rattle.kr_workers.specs.Counts.{missed_before}
use Rattle.kr_workers.specs.Placed.{IsBetween}
use Rattle.kr_workers.specs.declared.left_out.LeftOut.{LeftOut}
use Rattle.kr_report.specs.declared.threaded.Answered.{Answered}
use Rattle.kr_script.specs.declared.not_done.StepFault.{StepFault}
use Rattle.kr_report.specs.declared.threaded.Threaded.{Threaded}
use Rattle.kr_report.specs.declared.threaded.ThreadsShown.{ThreadsShown}
use Rattle.kr_threads.specs.Told.{IsTold}

-- An entry as a step with its reply.
abbrev pub answered : Entry → Answered
answered e = record { event = e.event; reply = e.reply }

-- The steps of a history.
abbrev pub steps_of : List Answered → List Event
steps_of h = map (λ a. a.event) h

-- Its steps with their replies.
abbrev pub with_replies : List Answered → List model.Entry
with_replies h = map (λ a. (a.event, a.reply)) h

-- A run from the opening map with this history, at whose end in this state no transaction is active: the replies are the history's, index and locks are the state's, and the programs are the history's, and serial.
pub record IsRanOf (opening : Map) (history : List model.Entry) (state : State) (ran : Ran) : Type 0 where
  pub opening_is : ran.opening ≡ opening
  pub replies : ran.replies ≡ model.replies_of history
  pub index : ran.index ≡ state.map
  pub locks : ran.locks ≡ state.locks
  pub programs : ran.programs ≡ model.programs history
  pub unfinished : ran.unfinished ≡ []
  pub serial : AreSerial ran.opening ran.programs

-- What a run of a script in several threads shows: its history is a run of granted steps under the table from the opening map, and ends in a state with no active transaction. It follows the script's steps, but for the faults. Each fault is told at the end of a prefix of the history, where its transaction has come to just this step. The run that is shown beside it has this history.
pub record IsThreaded (p : Protocol) (opening : Map) (steps : List Event) (d : Threaded) : Type 0 where
  pub state : State
  pub run : model.IsRun p opening (with_replies d.history.items) state
  pub granted : All (λ a. model.is_granted a.reply ≡ true) d.history.items
  pub ended : state.active ≡ []
  pub follows : Follows steps d.faults.items (steps_of d.history.items)
  pub told : All (IsTold p opening d.faults.items (with_replies d.history.items)) d.faults.items
  pub ran : IsRanOf opening (with_replies d.history.items) state d.ran

-- A closed engine's history, at whose end no transaction is active, as a run of a script in several threads: it follows the script's steps, but for the faults, each of which is told at the end of a prefix of it.
pub record IsCompared (p : Protocol) (opening : Map) (steps : List Event) (h : History) (faults : List StepFault) : Type 0 where
  pub shares : List Lent
  pub closed : IsClosed p opening h shares
  pub ended : h.unfinished ≡ []
  pub told : All (IsTold p opening faults (events_with_replies h.entries.items)) faults
  pub follows : Follows steps faults (map (λ e. e.event) h.entries.items)

-- What is shown is of a run of the script in several threads: its history, its faults, and the index and the unfinished transactions at its end.
pub record ShowsThreads (p : Protocol) (opening : Map) (steps : List Event) (d : ThreadsShown) : Type 0 where
  pub whole : Threaded
  pub is_threaded : IsThreaded p opening steps whole
  pub history : d.history.items ≡ whole.history.items
  pub faults : d.faults.items ≡ whole.faults.items
  pub index : d.index ≡ whole.ran.index
  pub unfinished : d.unfinished ≡ whole.ran.unfinished

-- The history follows the script's steps, but for those that were left out, and each of these was left out where its transaction had come to it.
pub record IsFollowed (steps : List Event) (h : History) (ls : List LeftOut) : Type 0 where
  pub follows : Follows steps (map (λ l. l.fault) ls) (map (λ e. e.event) h.entries.items)
  pub placed : All (λ l. IsBetween (map (λ e. e.event) h.entries.items) (missed_before (map (λ l. l.fault) ls) l.fault.txn l.fault.step) l) ls
