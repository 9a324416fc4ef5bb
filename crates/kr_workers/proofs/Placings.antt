-- How many steps a transaction has done between two places.
use Rattle.std.proofs.Common.{◌≡◌, ℕ, ◌+◌, ◌<◌, ◌≤◌, ◌==◌, List, ◌++◌, Option, Some, None, length, take, sym, ap, ◌∙◌, subst, cond, arith}
use Rattle.std.proofs.lemmas.List.{map-append, length-map, take-append-le, take-take, take_all}
use Rattle.std.proofs.lemmas.List.Sums.{sum_by-take-le}
use mathlib.Core.List.{IsPrefix}
use Rattle.kr_model.specs.declared.Event.{Event}
use Rattle.kr_model.specs.Run as model
use Rattle.kr_workers.specs.Counts.{done_by}
use Rattle.kr_workers.specs.Placed.{IsPast, IsUpTo, AreDoneUpTo, AreDoneBefore}
use Rattle.kr_workers.proofs.Counts.{done_own}

-- No more are done up to a place than in all.
done_less : (t k : ℕ) (es : List Event) → done_by t (take k es) ≤ done_by t es
done_less t k es = sum_by-take-le (λ e. cond (e.txn == t) 1 0) es k

-- A prefix is what is taken of it.
taken : (es before rest : List Event) → before ++ rest ≡ es → take (length before) es ≡ before
taken es before rest whole = ap (take (length before)) (sym whole) ∙ take-append-le (length before) before rest (omega arith) ∙ take_all (length before) before (omega arith)

-- A prefix that reaches past a place has what is done up to it.
at_least : (es before rest : List Event) (t k : ℕ) → before ++ rest ≡ es → k < length before → done_by t (take (k + 1) es) ≤ done_by t before
at_least es before rest t k whole past =
    let same : take (k + 1) es ≡ take (k + 1) before = ap (take (k + 1)) (sym whole) ∙ take-append-le (k + 1) before rest (omega arith) in
    subst (λ (l : List Event). done_by t l ≤ done_by t before) (sym same) (done_less t (k + 1) before)

-- One that ends there at the latest has no more than what is done before it.
at_most : (es before rest : List Event) (t k : ℕ) → before ++ rest ≡ es → length before ≤ k → done_by t before ≤ done_by t (take k es)
at_most es before rest t k whole up_to =
    let same : take (length before) (take k es) ≡ before = take-take (length before) k es up_to ∙ taken es before rest whole in
    subst (λ (l : List Event). done_by t l ≤ done_by t (take k es)) same (done_less t (length before) (take k es))

-- Nor any that there are in all.
at_most_all : (es before rest : List Event) (t : ℕ) → before ++ rest ≡ es → done_by t before ≤ done_by t es
at_most_all es before rest t whole = subst (λ (l : List Event). done_by t l ≤ done_by t es) (taken es before rest whole) (done_less t (length before) es)

module _ (es : List Event) (history before : List model.Entry) (events : model.events_of history ≡ es) (begins : IsPrefix before history) where
  abbrev ev : List Event
  ev = model.events_of before

  abbrev rest : List Event
  rest = model.events_of begins.0

  long : length ev ≡ length before
  long = length-map before _

  whole : ev ++ rest ≡ es
  whole = sym (map-append _ before begins.0) ∙ ap model.events_of begins.1 ∙ events

  low : (last : Option ℕ) (t number : ℕ) → IsPast before last → AreDoneUpTo es last t number → number ≤ done_by t ev
  low None t number past up_to = omega (arith, up_to)
  low (Some k) t number past to =
      let in' : k < length ev = omega (arith, long, past) in
      let done = at_least es ev rest t k whole in' in
      omega (arith, to.is, done)

  high : (next : Option ℕ) (t number : ℕ) → IsUpTo before next → AreDoneBefore es next t number → done_by t ev ≤ number
  high None t number up_to done = let most = at_most_all es ev rest t whole in omega (arith, most, done)
  high (Some k) t number up_to done =
      let in' : length ev ≤ k = omega (arith, long, up_to) in
      let most = at_most es ev rest t k whole in' in
      let one = done_own t k es done.within done.own in
      omega (arith, most, one, done.is)

  -- Between its places a transaction has done just so many steps.
  pub done_between : (last next : Option ℕ) (t number : ℕ) → IsPast before last → IsUpTo before next → AreDoneUpTo es last t number → AreDoneBefore es next t number → done_by t (model.events_of before) ≡ number
  done_between last next t number past up_to from to =
      let least = low last t number past from in
      let most = high next t number up_to to in
      omega (arith, least, most)
