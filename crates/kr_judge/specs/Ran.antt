-- What a run leaves.
use Rattle.std.specs.Prelude.{◌≡◌, ◌≤◌, List, All, map}
use Rattle.kr_model.specs.declared.Event.{Event}
use Rattle.kr_model.specs.Protocol.{Protocol}
use Rattle.kr_model.specs.Map.{Map}
use Rattle.kr_model.specs.State.{start}
use Rattle.kr_model.specs.Run as model
use Rattle.kr_judge.specs.declared.ran.Ran.{Ran}

-- What the definition's run of these events under p from the opening map leaves.
pub record IsRanUnder (p : Protocol) (opening : Map) (events : List Event) (ran : Ran) : Type 0 where
  -- the index before the first step is the opening map
  pub opening_is : ran.opening ≡ opening
  -- the replies are the run's
  pub replies : ran.replies ≡ (let r = model.run p (start opening) events in model.replies_of r.history)
  -- the index is that of the run's last state
  pub index : ran.index ≡ (let r = model.run p (start opening) events in r.state.map)
  -- the locks are those of the run's last state
  pub locks : ran.locks ≡ (let r = model.run p (start opening) events in r.state.locks)
  -- the programs are those of the transactions that commit in the run
  pub programs : ran.programs ≡ (let r = model.run p (start opening) events in model.programs r.history)
  -- the mode of each lock is one of p's
  pub modes : All (λ l. l.1 ≤ p.count) ran.locks
  -- the unfinished are the transactions that are active in the run's last state
  pub unfinished : ran.unfinished ≡ (let r = model.run p (start opening) events in map (λ a. a.0) r.state.active)
