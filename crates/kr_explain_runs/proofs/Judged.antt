-- What was run and judged goes wrong.
use Rattle.std.specs.Prelude.{List, Bool, Result, Ok, Err, IfOk, IsTrue, All}
use Rattle.std.proofs.Common.{sym, subst}
use Rattle.kr_model.specs.declared.Event.{Event}
use Rattle.kr_model.specs.Protocol.{Protocol}
use Rattle.kr_model.specs.Map.{Map, IsMap}
use Rattle.kr_model.specs.Run.{is_granted}
use Rattle.kr_model.specs.Serial.{AreSerial}
use Rattle.kr_judge.specs.Ran.{IsRanUnder}
use Rattle.kr_judge.specs.declared.ran.Ran.{Ran}
use Rattle.kr_theorem.specs.Wrong.{GoesWrong}

-- the run is that of the script
wrong_ran : (p : Protocol) (opening : Map) (events : List Event) (ran : Ran) → IsMap opening → IsRanUnder p opening events ran → All (λ r. IsTrue (is_granted r)) ran.replies → (AreSerial ran.opening ran.programs → ⊥) → GoesWrong p opening events
wrong_ran p opening events ran is_map under granted not_serial = record {
  is_map = is_map;
  granted = subst (All (λ r. IsTrue (is_granted r))) under.replies granted;
  not_serial = λ serial. not_serial (subst (λ m. AreSerial m ran.programs) (sym under.opening_is) (subst (AreSerial opening) (sym under.programs) serial));
}

-- the same where it was found out whether it does
pub wrong_where : {E : Type 0} (p : Protocol) (opening : Map) (events : List Event) (ran : Ran) (r : Result Bool E) → IsMap opening → IsRanUnder p opening events ran → IfOk r (λ wrong. IsTrue wrong → All (λ r. IsTrue (is_granted r)) ran.replies) → IfOk r (λ wrong. IsTrue wrong → AreSerial ran.opening ran.programs → ⊥) → IfOk r (λ wrong. IsTrue wrong → GoesWrong p opening events)
wrong_where p opening events ran (Ok wrong) is_map under granted not_serial = λ yes. wrong_ran p opening events ran is_map under (granted yes) (not_serial yes)
wrong_where p opening events ran (Err e) is_map under granted not_serial = tt
