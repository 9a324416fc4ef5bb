-- Scripts that lead to a state, and lists of states to each of which one leads.
use Rattle.std.proofs.Common.{◌≡◌, Bool, true, false, List, [], ◌∷◌, ◌++◌, All, sym, subst}
use Rattle.std.specs.Prelude.{Result, Ok, Err, IfOk, IsTrue, if◌then◌else◌}
use Rattle.std.proofs.lemmas.List.Elements.{All-push}
use Rattle.kr_model.specs.declared.Event.{Event}
use Rattle.kr_model.specs.declared.Name.TheVariants.{Key}
use Rattle.kr_model.specs.Protocol.{Protocol}
use Rattle.kr_model.specs.Map.{Map, IsMap}
use Rattle.kr_model.specs.Locks.{own}
use Rattle.kr_model.specs.Run.{is_granted}
use Rattle.kr_judge.specs.Ran.{IsRanUnder}
use Rattle.kr_judge.specs.declared.ran.Ran.{Ran}
use Rattle.kr_explain_runs.specs.declared.keys.TheConstants.{A, Y}
use Rattle.kr_explain_runs.specs.declared.reached.Reached.{Reached}
use Rattle.kr_explain_runs.specs.declared.state.State.{State}
use Rattle.kr_explain_runs.specs.Reached.{AreAlikeAt, IsReached, Leads, index_of, points}

-- the run of a script that ends in a state leads there
led_there : (p : Protocol) (opening : Map) (events : List Event) (s : State) (ran : Ran) → IsMap opening → IsRanUnder p opening events ran → All (λ r. IsTrue (is_granted r)) ran.replies → All (AreAlikeAt ran.index (index_of s)) points → own ran.locks 1 (Key A) ≡ s.on_a → own ran.locks 1 (Key Y) ≡ s.on_y → Leads p opening events s
led_there p opening events s ran is_map under granted alike on_a on_y = record {
  is_map = is_map;
  ends = record {
    granted = subst (All (λ r. IsTrue (is_granted r))) under.replies granted;
    alike = subst (λ (m : Map). All (AreAlikeAt m (index_of s)) points) under.index alike;
    on_a = subst (λ h. own h 1 (Key A) ≡ s.on_a) under.locks on_a;
    on_y = subst (λ h. own h 1 (Key Y) ≡ s.on_y) under.locks on_y;
  };
}

-- the same where it was found out whether the run ends there
pub led_where : {E : Type 0} (p : Protocol) (opening : Map) (events : List Event) (s : State) (ran : Ran) (r : Result Bool E) → IsMap opening → IsRanUnder p opening events ran → IfOk r (λ does. IsTrue does → All (λ r. IsTrue (is_granted r)) ran.replies) → IfOk r (λ does. IsTrue does → All (AreAlikeAt ran.index (index_of s)) points) → IfOk r (λ does. IsTrue does → own ran.locks 1 (Key A) ≡ s.on_a) → IfOk r (λ does. IsTrue does → own ran.locks 1 (Key Y) ≡ s.on_y) → IfOk r (λ does. IsTrue does → Leads p opening events s)
led_where p opening events s ran (Ok does) is_map under granted alike on_a on_y = λ yes. led_there p opening events s ran is_map under (granted yes) (alike yes) (on_a yes) (on_y yes)
led_where p opening events s ran (Err e) is_map under granted alike on_a on_y = tt

-- a script leads to each state of a list
abbrev pub AreReached : Protocol → List Reached → Type 0
AreReached p rs = All (λ (r : Reached). IsReached p r.state) rs

-- one state more, or none where a growth was refused
pub put_behind : (p : Protocol) (done : Bool) (rs more : List Reached) (r : Reached) → AreReached p rs → IsReached p r.state → more ≡ (if done then rs ++ r ∷ [] else rs) → AreReached p more
put_behind p true rs more r all is e = subst (AreReached p) (sym e) (All-push (λ (r : Reached). IsReached p r.state) rs r all is)
put_behind p false rs more r all is e = subst (AreReached p) (sym e) all
