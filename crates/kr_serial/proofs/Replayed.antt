-- A run whose first steps are done.
use Rattle.std.specs.Prelude.{◌≡◌, List, ◌++◌}
use Rattle.std.proofs.Common.{◌∙◌}
use Rattle.kr_model.specs.declared.Event.{Event}
use Rattle.kr_model.specs.declared.Reply.{Reply}
use Rattle.kr_model.specs.Protocol.{Protocol}
use Rattle.kr_model.specs.State.{State, start}
use Rattle.kr_model.specs.Map.{Map}
use Rattle.kr_model.specs.Run.{Program, run, replies_of, programs}
use Rattle.kr_model.specs.Log.{Log, no_log, log_after}
use Rattle.kr_model.proofs.LogLaws.{log_of_run}

-- The replies given so far, then those of the events left, are the replies of the whole run from `first`; both end in one state, and with one log.
pub record IsRest (p : Protocol) (first : State) (begun : Log) (all : List Event) (now : State) (so_far : Log) (left : List Event) (given : List Reply) : Type 0 where
  pub replies : given ++ (let r = run p now left in replies_of r.history) ≡ (let r = run p first all in replies_of r.history)
  pub state : (let r = run p now left in r.state) ≡ (let r = run p first all in r.state)
  pub log : (let r = run p now left in log_after so_far r.history) ≡ (let r = run p first all in log_after begun r.history)

-- The same of a run of which no log is kept.
pub record IsLeft (p : Protocol) (first : State) (all : List Event) (now : State) (left : List Event) (given : List Reply) : Type 0 where
  pub replies : given ++ (let r = run p now left in replies_of r.history) ≡ (let r = run p first all in replies_of r.history)
  pub state : (let r = run p now left in r.state) ≡ (let r = run p first all in r.state)

-- The committed programs of a log that went along with a run are those of the run.
pub programs_of_run : (p : Protocol) (opening : Map) (events : List Event) (ps : List Program) → (let r = run p (start opening) events in let log = log_after no_log r.history in ps ≡ log.committed)
    → ps ≡ (let r = run p (start opening) events in programs r.history)
programs_of_run p opening events ps is = let log = log_of_run p opening events in is ∙ log.committed
