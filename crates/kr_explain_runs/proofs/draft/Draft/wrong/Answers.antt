use Rattle.std.specs.Prelude.{◌≡◌, ◌<◌, ℕ, List, Some, option_map}
use Rattle.std.proofs.Common.{ap, refl, subst, length, get_or}
use Rattle.std.proofs.lemmas.Option.{slice_get_read}
use Rattle.kr_model.specs.declared.Event.{Event}
use Rattle.kr_model.specs.Map.{Map}
use Rattle.kr_model.specs.Protocol.{Protocol}
use Rattle.kr_theorem.specs.Wrong.{GoesWrong}
use Rattle.kr_explain_runs.specs.Requests.{txn_at}
use Rattle.kr_explain_runs.proofs.draft.Draft.wrong.Goals as goal

-- what was judged by slices
wrong_of : (p : Protocol) (o opening : Map) (es events : List Event) → o ≡ opening → es ≡ events → GoesWrong p o es → GoesWrong p opening events
wrong_of p o opening es events same_opening same_events wrong = subst (λ (x : Map). GoesWrong p x events) same_opening (subst (λ (x : List Event). GoesWrong p o x) same_events wrong)

-- who takes a step that was read by a slice
taken_by : (es events : List Event) (k : ℕ) (e : Event) → es ≡ events → k < length es → e ≡ get_or es k e → txn_at events k ≡ Some e.txn
taken_by es events k e same low at = subst (λ (x : List Event). txn_at x k ≡ Some e.txn) same (ap (option_map (λ (e : Event). e.txn)) (slice_get_read es _ k e refl low at))

pub invariant_of-result : goal.invariant_of-result
invariant_of-result g c =
    let wrong = wrong_of (g.P.Protocol.table c.args.protocol.now) _ _ _ _ c.deref-2.ensures.value c.deref-3.ensures.value (c.in_ok-goes_wrong.ensures c.if-not-branch.false) in
    record {
      rising = wrong.is_map;
      weak_is_holders = taken_by _ _ _ c.in-Some-Some.own.now c.deref-4.ensures.value c.in-Some-Some.ensures.lookup.3.0 c.in-Some-Some.ensures.lookup.1;
      let_in_is_intruders = taken_by _ _ _ c.in-Some-Some.through.now c.deref-5.ensures.value c.in-Some-Some.ensures'.lookup.3.0 c.in-Some-Some.ensures'.lookup.1;
    }

pub returns : goal.returns
returns g c = wrong_of (g.P.Protocol.table c.args.protocol.now) _ _ _ _ c.deref-2.ensures.value c.deref-3.ensures.value (c.in_ok-goes_wrong.ensures c.if-not-branch.false)
