-- Runs under two tables of which the first is safe have the same history, where some set of modes is closed under the requests that may come.
use Rattle.std.proofs.Common.{ℕ, [], ◌∷◌, IsTrue}
use Rattle.kr_model.specs.declared.Op.{Op}
use Rattle.kr_model.specs.declared.Event.{Event}
use Rattle.kr_model.specs.Protocol.{Protocol, IsLawful}
use Rattle.kr_model.specs.Map.{Map}
use Rattle.kr_model.specs.State.{State, start}
use Rattle.kr_model.specs.Step.{step}
use Rattle.kr_model.specs.Run.{run}
use Rattle.kr_model.specs.Serial.{RunsAreSerial}
use Rattle.kr_model.specs.Safe.{IsSafe}
use Rattle.kr_theorem.proofs.run.Runs.{known_run, opens, safe_runs_are_serial}
use Rattle.kr_alike.proofs.Runs.{run_same_from, serial_too}
use Rattle.kr_alike.specs.Coming.{MayCome, HasClosedSet, AlikeOnMaps}
use Rattle.kr_alike.proofs.Absent.{Left}
use Rattle.kr_alike.proofs.AbsentSteps.{Reached, step_left, start_left}
use Rattle.kr_alike.proofs.Comes.{comes}

-- A state of a run under a safe table.
abbrev IsReached : Protocol → Map → State → Type 0
IsReached p opening s = Reached p opening s × Left p s

module _ (p : Protocol) (laws : IsLawful p) (safe : IsSafe p) (opening : Map) where
  stays : (s : State) (t : ℕ) (o : Op) → IsReached p opening s → let x = step p s t o in IsReached p opening x.1
  stays s t o ((h, g), left) =
      let e : Event = record { txn = t; op = o } in
      let next : Reached p opening (let x = step p s t o in x.1) = (_, known_run p laws safe opening (e ∷ []) h s g) in
      (next, step_left p laws safe opening h s g left t o next)

pub closed_is_alike : (p q : Protocol) → IsLawful p → IsLawful q → IsSafe p → HasClosedSet p q → AlikeOnMaps p q
closed_is_alike p q lawful lawful_too safe set opening events sorted =
    run_same_from p q lawful lawful_too set.updates (MayCome p) (λ x y. IsTrue (set.has x y)) set.closed
    (IsReached p opening) (stays p lawful safe opening) (λ s t i. comes p lawful safe opening i.0.0 s i.0.1 i.1 t)
    opening events (([], opens p lawful opening sorted), start_left p lawful opening)

pub alike_are_serial : (p q : Protocol) → IsLawful p → IsSafe p → AlikeOnMaps p q → RunsAreSerial q
alike_are_serial p q laws safe alike opening events is =
    serial_too opening (run p (start opening) events) (run q (start opening) events) (alike opening events is) (safe_runs_are_serial p laws safe opening events is)
