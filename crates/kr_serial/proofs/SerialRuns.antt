-- What a run leaves, and what one that is serializable in commit order shows.
use Rattle.std.proofs.Common.{◌≡◌, ◌≤◌, List, All, map, sym, subst, Result, Ok, Err, IfOk, OnOk}
use Rattle.kr_model.specs.declared.Event.{Event}
use Rattle.kr_model.specs.Map.{Map}
use Rattle.kr_model.specs.Protocol.{Protocol}
use Rattle.kr_model.specs.State.{start}
use Rattle.kr_model.specs.Run.{Program, run, replies_of, programs}
use Rattle.kr_model.specs.Serial.{AreSerial}
use Rattle.kr_judge.specs.declared.ran.Ran.{Ran}
use Rattle.kr_judge.specs.Ran.{IsRanUnder}

-- What a run leaves, put together.
pub ran_under : {E : Type 0} (p : Protocol) (opening : Map) (events : List Event) (r : Result Ran E)
    → IfOk r (λ ran. ran.opening ≡ opening)
    → IfOk r (λ ran. ran.replies ≡ (let r = run p (start opening) events in replies_of r.history))
    → IfOk r (λ ran. ran.index ≡ (let r = run p (start opening) events in r.state.map))
    → IfOk r (λ ran. ran.locks ≡ (let r = run p (start opening) events in r.state.locks))
    → IfOk r (λ ran. ran.programs ≡ (let r = run p (start opening) events in programs r.history))
    → IfOk r (λ ran. All (λ l. l.1 ≤ p.count) ran.locks)
    → IfOk r (λ ran. ran.unfinished ≡ (let r = run p (start opening) events in map (λ a. a.0) r.state.active))
    → IfOk r (λ ran. IsRanUnder p opening events ran)
ran_under p opening events (Ok ran) opening_is replies index locks committed modes unfinished = record {
  opening_is = opening_is;
  replies = replies;
  index = index;
  locks = locks;
  programs = committed;
  modes = modes;
  unfinished = unfinished;
}
ran_under p opening events (Err e) opening_is replies index locks committed modes unfinished = tt

-- What holds holds where there is a result.
pub on_ok : {T E A : Type 0} (r : Result T E) → A → OnOk r A
on_ok (Ok x) a = a
on_ok (Err e) a = tt

-- A result that shows these programs from this opening map shows serial ones where they are so.
pub shows_serial : {E : Type 0} (r : Result Ran E) (opening : Map) (ps : List Program) → AreSerial opening ps
    → IfOk r (λ ran. ran.opening ≡ opening) → IfOk r (λ ran. ran.programs ≡ ps) → IfOk r (λ ran. AreSerial ran.opening ran.programs)
shows_serial (Ok ran) opening ps h o p = subst (λ m. AreSerial m ran.programs) (sym o) (subst (λ qs. AreSerial opening qs) (sym p) h)
shows_serial (Err e) opening ps h o p = tt
