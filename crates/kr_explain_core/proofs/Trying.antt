-- Cases that are tried one after another.
use Rattle.std.specs.Prelude.{◌≡◌, ◌≤◌, ◌<◌, ◌+◌, ◌-◌, ◌*◌, ◌⊎◌, ℕ, suc, zero, Bool, true, false, List, [], ◌∷◌, ◌++◌, Contains, Option, Some, None, IfSome, Result, Ok, Err, IfOk, length, take, if◌then◌else◌, refl}
use Rattle.std.specs.List.{Any}
use Rattle.std.specs.List.Sorted.{IsPermutation}
use Rattle.std.proofs.Common.{Vec, Global, ◌∙◌, sym, subst, inl, inr, arith, add-one, append_assoc, get_or}
use Rattle.std.proofs.lemmas.List.{get_or-take, length-take, take_more}
use Rattle.std.proofs.lemmas.List.Elements.{Contains-append_left, Contains-push}
use Rattle.std.proofs.lemmas.List.Sorted.{IsPermutation-append_left, IsPermutation-middle, IsPermutation-push_more, IsPermutation-refl, IsPermutation-sym, IsPermutation-trans}
use Rattle.kr_model.specs.declared.FailedCase.{FailedCase}
use Rattle.kr_model.specs.Protocol.{Protocol}
use Rattle.kr_explain_runs.specs.declared.counterexample.Counterexample.{Counterexample}
use Rattle.kr_explain_runs.specs.declared.fit.Fit.{Fit}
use Rattle.kr_explain_runs.specs.declared.fit.Fit.TheVariants.{Case, Mode}
use Rattle.kr_explain_runs.specs.Comes.{CanComeTo}
use Rattle.kr_explain_runs.specs.Marks.{AreMarked}
use Rattle.kr_theorem.specs.Wrong.{GoesWrong}
use Rattle.kr_explain_core.specs.declared.run.Run.{Run}
use Rattle.kr_explain_core.specs.declared.told_run.ToldRun.{ToldRun}
use Rattle.kr_explain_core.specs.Tried.{AreAtLeast, AreTried, HasSchedule, IsRunOf, IsScheduleOf, fit_of}
use Rattle.kr_explain_core.specs.Telling.{AreToldInOrder, AreToldOf, HasRunOf, IsRunWith, IsToldAfter, IsUntold}

-- At least n --

module _ {A : Type 0} (P : A → Type 0) where
  -- with more elements they aren't fewer
  at_least_more : (n : ℕ) (xs ys : List A) → AreAtLeast P n xs → AreAtLeast P n (xs ++ ys)
  at_least_more zero xs ys h = tt
  at_least_more (suc n) [] ys h = absurd h
  at_least_more (suc n) (x ∷ xs) ys (inl (p, rest)) = inl (p, at_least_more n xs ys rest)
  at_least_more (suc n) (x ∷ xs) ys (inr rest) = inr (at_least_more (suc n) xs ys rest)

  -- one more at the end
  at_least_next : (n : ℕ) (xs : List A) (x : A) → AreAtLeast P n xs → P x → AreAtLeast P (suc n) (xs ++ x ∷ [])
  at_least_next zero [] x h p = inl (p, tt)
  at_least_next zero (y ∷ ys) x h p = inr (at_least_next zero ys x tt p)
  at_least_next (suc n) [] x h p = absurd h
  at_least_next (suc n) (y ∷ ys) x (inl (q, rest)) p = inl (q, at_least_next n ys x rest p)
  at_least_next (suc n) (y ∷ ys) x (inr rest) p = inr (at_least_next (suc n) ys x rest p)

  -- one that is among them
  at_least_one : (xs : List A) (x : A) → Contains xs x → P x → AreAtLeast P 1 xs
  at_least_one [] x (k, low, is) p = absurd (omega (arith, low))
  at_least_one (y ∷ ys) x (zero, low, is) p = inl (subst P (sym is) p, tt)
  at_least_one (y ∷ ys) x (suc k, low, is) p = inr (at_least_one ys x (k, omega (arith, low), is) p)

-- Schedules and runs --

-- a script that goes wrong and has its marks is a schedule
pub scheduled : (p : Protocol) (f : FailedCase) (fit : Fit) (script : Option Counterexample) → IfSome script (λ c. GoesWrong p c.opening.items c.events.items) → IfSome script (AreMarked p f fit) → IfSome script (IsScheduleOf p f fit)
scheduled p f fit None wrong marked = tt
scheduled p f fit (Some c) wrong marked = record { wrong = wrong; marked = marked }

-- a run of one of these cases is one of more cases
run_of_more : (p : Protocol) (xs ys : List FailedCase) (run : Option Run) → IfSome run (IsRunOf p xs) → IfSome run (IsRunOf p (xs ++ ys))
run_of_more p xs ys None h = h
run_of_more p xs ys (Some run) h = record { of_case = Contains-append_left xs ys run.case h.of_case; schedule = h.schedule }

-- the run with a schedule of a case is one of the case
pub run_with : (p : Protocol) (xs : List FailedCase) (f : FailedCase) (fit : Fit) (as_case : Bool) (c : Counterexample) (run : Run) → Contains xs f → (if as_case then Case else Mode) ≡ fit → IsScheduleOf p f fit c → IsRunWith f as_case c run → IsRunOf p xs run
run_with p xs f fit as_case c run among same schedule is = record {
  of_case = subst (Contains xs) (sym is.case_is) among;
  schedule =
      subst (λ (b : Bool). IsScheduleOf p run.case (if b then Case else Mode) run.script) (sym is.as_case)
      (subst (λ (x : Fit). IsScheduleOf p run.case x run.script) (sym same)
      (subst (λ (d : Counterexample). IsScheduleOf p run.case fit d) (sym is.script_is)
      (subst (λ (g : FailedCase). IsScheduleOf p g fit c) (sym is.case_is) schedule)));
}

-- the same of what may be a run
pub runs_with : (p : Protocol) (xs : List FailedCase) (f : FailedCase) (fit : Fit) (as_case : Bool) (c : Counterexample) (run : Option Run) → Contains xs f → (if as_case then Case else Mode) ≡ fit → IsScheduleOf p f fit c → IfSome run (IsRunWith f as_case c) → IfSome run (IsRunOf p xs)
runs_with p xs f fit as_case c None among same schedule is = tt
runs_with p xs f fit as_case c (Some run) among same schedule is = run_with p xs f fit as_case c run among same schedule is

-- what was made of a script that was found is a run of the case
pub run_found : {E : Type 0} (p : Protocol) (xs : List FailedCase) (f : FailedCase) (fit : Fit) (as_case : Bool) (script : Option Counterexample) (c : Counterexample) (r : Result (Option Run) E) → Contains xs f → (if as_case then Case else Mode) ≡ fit → script ≡ Some c → IfSome script (λ d. GoesWrong p d.opening.items d.events.items) → IfSome script (AreMarked p f fit) → IfOk r (λ run. IfSome run (IsRunWith f as_case c)) → IfOk r (λ run. IfSome run (IsRunOf p xs))
run_found p xs f fit as_case script c (Ok run) among same found wrong marked is =
    let schedule : IsScheduleOf p f fit c = subst (λ (s : Option Counterexample). IfSome s (IsScheduleOf p f fit)) found (scheduled p f fit script wrong marked) in
    runs_with p xs f fit as_case c run among same schedule is
run_found p xs f fit as_case script c (Err e) among same found wrong marked is = tt

-- the case at a place below k is one of the first k
pub among_first : (cases : List FailedCase) (k at : ℕ) (f : FailedCase) → at < k → at < length cases → f ≡ get_or cases at f → Contains (take k cases) f
among_first cases k at f below within read = (at, omega (arith, below, within, length-take k cases), get_or-take k cases at f below ∙ sym read)

-- Tries --

untrue : (b : Bool) → b ≡ false → b ≡ true → ⊥
untrue b is other = absurd (cc)

-- nothing was tried yet
pub none_tried : (p : Protocol) (cases : List FailedCase) (told : ToldRun) → IsUntold told → AreToldOf p cases told
none_tried p cases told un = record {
  some = omega (arith, un.0);
  few = omega (arith, un.1);
  schedules = subst (λ n. AreAtLeast (HasSchedule p) n (take told.tried cases)) (sym un.1) tt;
  shown = subst (λ (r : Option Run). IfSome r (IsRunOf p (take told.tried cases))) (sym un.2) tt;
  counted = subst (λ (r : Option Run). IfSome r (λ x. 0 < told.runs)) (sym un.2) tt;
  reached = λ is. absurd (untrue told.is_reached un.3 is);
}

-- what is known of the first k cases
record Tried (p : Protocol) (cases : List FailedCase) (k runs : ℕ) (run : Option Run) : Type 0 where
  schedules : AreAtLeast (HasSchedule p) runs (take k cases)
  shown : IfSome run (IsRunOf p (take k cases))
  counted : IfSome run (λ r. 0 < runs)

-- one case more, which gave no script
tried_none : (p : Protocol) (cases : List FailedCase) (k : ℕ) (d : FailedCase) (runs : ℕ) (run : Option Run) → k < length cases → Tried p cases k runs run → Tried p cases (k + 1) runs run
tried_none p cases k d runs run low t =
    let more : take (k + 1) cases ≡ take k cases ++ get_or cases k d ∷ [] = take_more cases k d low in
    record {
      schedules = subst (AreAtLeast (HasSchedule p) runs) (sym more) (at_least_more (HasSchedule p) runs (take k cases) (get_or cases k d ∷ []) t.schedules);
      shown = subst (λ xs. IfSome run (IsRunOf p xs)) (sym more) (run_of_more p (take k cases) (get_or cases k d ∷ []) run t.shown);
      counted = t.counted;
    }

-- a run is counted where one was found
counted_now : (runs : ℕ) (run : Option Run) → IfSome run (λ r. 0 < runs + 1)
counted_now runs None = tt
counted_now runs (Some run) = omega arith

-- one case more, which gave this script, of which the run may be told
tried_one : (p : Protocol) (cases : List FailedCase) (k : ℕ) (d : FailedCase) (runs : ℕ) (run run2 : Option Run) (c : Counterexample) → k < length cases → Tried p cases k runs run → IsScheduleOf p (get_or cases k d) Case c → (run2 ≡ run) ⊎ HasRunOf (get_or cases k d) (Some c) run2 → Tried p cases (k + 1) (runs + 1) run2
tried_one p cases k d runs run run2 c low t schedule which =
    let more : take (k + 1) cases ≡ take k cases ++ get_or cases k d ∷ [] = take_more cases k d low in
    record {
      schedules =
          subst (λ n. AreAtLeast (HasSchedule p) n (take (k + 1) cases)) (sym (add-one runs))
          (subst (AreAtLeast (HasSchedule p) (suc runs)) (sym more) (at_least_next (HasSchedule p) runs (take k cases) (get_or cases k d) t.schedules (Case, (c, schedule))));
      shown = subst (λ xs. IfSome run2 (IsRunOf p xs)) (sym more) (shown_by run2 which);
      counted = counted_now runs run2;
    }
  where
    shown_by : (r : Option Run) → (r ≡ run) ⊎ HasRunOf (get_or cases k d) (Some c) r → IfSome r (IsRunOf p (take k cases ++ get_or cases k d ∷ []))
    shown_by r (inl same) = subst (λ (x : Option Run). IfSome x (IsRunOf p (take k cases ++ get_or cases k d ∷ []))) (sym same) (run_of_more p (take k cases) (get_or cases k d ∷ []) run t.shown)
    shown_by None (inr has) = absurd has
    shown_by (Some r) (inr has) = run_with p (take k cases ++ get_or cases k d ∷ []) (get_or cases k d) Case true c r (Contains-push (take k cases) (get_or cases k d)) refl schedule has

-- what is told of the first k + 1 cases, by what was told of the first k
told_of : (p : Protocol) (cases : List FailedCase) (k : ℕ) (told : ToldRun) → told.tried ≡ k → told.is_reached ≡ false → k ≤ length cases → told.runs ≤ k → Tried p cases k told.runs told.run → AreToldOf p cases told
told_of p cases k told at unreached low few t = record {
  some = omega (arith, low, at);
  few = omega (arith, few, at);
  schedules = subst (λ n. AreAtLeast (HasSchedule p) told.runs (take n cases)) (sym at) t.schedules;
  shown = subst (λ n. IfSome told.run (IsRunOf p (take n cases))) (sym at) t.shown;
  counted = t.counted;
  reached = λ is. absurd (untrue told.is_reached unreached is);
}

tried_of : (p : Protocol) (cases : List FailedCase) (k : ℕ) (told : ToldRun) → told.tried ≡ k → AreToldOf p cases told → Tried p cases k told.runs told.run
tried_of p cases k told at are = subst (λ n. Tried p cases n told.runs told.run) at (record { schedules = are.schedules; shown = are.shown; counted = are.counted })

same_run : (f : FailedCase) (r s : Option Run) → (r ≡ s) ⊎ HasRunOf f None r → r ≡ s
same_run f r s (inl same) = same
same_run f None s (inr has) = absurd has
same_run f (Some run) s (inr has) = absurd has

pub tried_next : (p : Protocol) (cases : List FailedCase) (k : ℕ) (d : FailedCase) (script : Option Counterexample) (old new : ToldRun) → k < length cases → old.tried ≡ k → old.is_reached ≡ false → AreToldOf p cases old → IfSome script (IsScheduleOf p (get_or cases k d) Case) → IsToldAfter (get_or cases k d) script old new → AreToldOf p cases new
tried_next p cases k d None old new low at unreached told schedule after =
    let few = told.few in
    let runs : new.runs ≡ old.runs = omega (arith, after.runs) in
    let next : Tried p cases (k + 1) old.runs old.run = tried_none p cases k d old.runs old.run low (tried_of p cases k old at told) in
    let with_runs : Tried p cases (k + 1) new.runs old.run = subst (λ n. Tried p cases (k + 1) n old.run) (sym runs) next in
    told_of p cases (k + 1) new (omega (arith, after.tried, at)) (after.is_reached ∙ unreached) (omega (arith, low)) (omega (arith, runs, few, at))
    (subst (λ (r : Option Run). Tried p cases (k + 1) new.runs r) (sym (same_run (get_or cases k d) new.run old.run after.run)) with_runs)
tried_next p cases k d (Some c) old new low at unreached told schedule after =
    let few = told.few in
    let next : Tried p cases (k + 1) (old.runs + 1) new.run = tried_one p cases k d old.runs old.run new.run c low (tried_of p cases k old at told) schedule after.run in
    told_of p cases (k + 1) new (omega (arith, after.tried, at)) (after.is_reached ∙ unreached) (omega (arith, low)) (omega (arith, after.runs, few, at))
    (subst (λ n. Tried p cases (k + 1) n new.run) (sym after.runs) next)

-- one search more is within what is left
pub one_search_more : (tried tried2 states n left left2 all : ℕ) → states ≡ n → tried2 ≡ tried + 1 → states ≤ left → left2 ≡ left - states → tried * n + left ≤ all → tried2 * n + left2 ≤ all
one_search_more tried tried2 states n left left2 all same next low less before =
    subst (λ m. m * n + left2 ≤ all) (sym next) (subst (λ m. (tried + 1) * m + left2 ≤ all) same (omega (arith, low, less, subst (λ m. tried * m + left ≤ all) (sym same) before)))

-- a run that scenes gave for one of the cases that were tried
staged_told : (p : Protocol) (cases : List FailedCase) (old : ToldRun) (run : Run) → AreToldOf p cases old → 0 < old.tried → IsRunOf p (take old.tried cases) run → AreTried p cases old.tried 1 (Some run) false
staged_told p cases old run told some is = record {
  some = told.some;
  few = omega (arith, some);
  schedules = at_least_one (HasSchedule p) (take old.tried cases) run.case is.of_case (fit_of run, (run.script, is.schedule));
  shown = is;
  counted = omega arith;
  reached = λ e. absurd (untrue false refl e);
}

pub staged_run : (p : Protocol) (cases : List FailedCase) (old : ToldRun) (found : Option Run) (run : Run) → AreToldOf p cases old → 0 < old.tried → found ≡ Some run → IfSome found (IsRunOf p (take old.tried cases)) → AreTried p cases old.tried 1 (Some run) false
staged_run p cases old found run told some is found_is = staged_told p cases old run told some (subst (λ (r : Option Run). IfSome r (IsRunOf p (take old.tried cases))) is found_is)

-- what is told, with whether a case is reached
pub reached_told : (p : Protocol) (cases : List FailedCase) (old new : ToldRun) → AreToldOf p cases old → new.tried ≡ old.tried → new.runs ≡ old.runs → new.run ≡ old.run → (new.is_reached ≡ true → Any (CanComeTo p) (take old.tried cases)) → AreToldOf p cases new
reached_told p cases old new told tried runs run reached =
    let t : Tried p cases new.tried old.runs old.run = tried_of p cases new.tried old (sym tried) told in
    let u : Tried p cases new.tried new.runs old.run = subst (λ n. Tried p cases new.tried n old.run) (sym runs) t in
    let v : Tried p cases new.tried new.runs new.run = subst (λ (r : Option Run). Tried p cases new.tried new.runs r) (sym run) u in
    let few = told.few in
    let some = told.some in
    record {
      some = omega (arith, some, tried);
      few = omega (arith, few, runs, tried);
      schedules = v.schedules;
      shown = v.shown;
      counted = v.counted;
      reached = λ is. subst (λ n. Any (CanComeTo p) (take n cases)) (sym tried) (reached is);
    }

-- the cases in some order
pub in_order : {E : Type 0} (p : Protocol) (cases order : List FailedCase) (r : Result ToldRun E) → IsPermutation cases order → IfOk r (AreToldOf p order) → IfOk r (AreToldInOrder p cases)
in_order p cases order (Ok told) same is = record { order = order; same = same; told = is }
in_order p cases order (Err e) same is = tt

pub none_in_order : (p : Protocol) (cases : List FailedCase) (told : ToldRun) → IsUntold told → AreToldInOrder p cases told
none_in_order p cases told un = record { order = cases; same = IsPermutation-refl cases; told = none_tried p cases told un }

-- the run that is told goes wrong
pub goes_wrong : (p : Protocol) (cases : List FailedCase) (run : Option Run) → IfSome run (IsRunOf p cases) → IfSome run (λ r. GoesWrong p r.script.opening.items r.script.events.items)
goes_wrong p cases None of_cases = tt
goes_wrong p cases (Some run) of_cases = let schedule = of_cases.schedule in schedule.wrong

-- Orders --

-- one more case, put last
put_last : (xs firsts others : List FailedCase) (x : FailedCase) → IsPermutation xs (firsts ++ others) → IsPermutation (xs ++ x ∷ []) (firsts ++ (others ++ x ∷ []))
put_last xs firsts others x same = subst (λ ys. IsPermutation (xs ++ x ∷ []) ys) (append_assoc firsts others (x ∷ [])) (IsPermutation-append_left (x ∷ []) xs (firsts ++ others) same)

-- or behind the first ones
put_first : (xs firsts others : List FailedCase) (x : FailedCase) → IsPermutation xs (firsts ++ others) → IsPermutation (xs ++ x ∷ []) ((firsts ++ x ∷ []) ++ others)
put_first xs firsts others x same =
    subst (λ ys. IsPermutation (xs ++ x ∷ []) ys) (sym (append_assoc firsts (x ∷ []) others))
    (IsPermutation-push_more xs (firsts ++ others) (firsts ++ x ∷ others) x same (IsPermutation-sym (firsts ++ x ∷ others) (x ∷ (firsts ++ others)) (IsPermutation-middle firsts x others)))

-- the same of the case at a place, and what the lists then are
pub placed_last : (cases : List FailedCase) (k : ℕ) (d : FailedCase) (firsts others firsts2 others2 : List FailedCase) → k < length cases → firsts2 ≡ firsts → others2 ≡ others ++ get_or cases k d ∷ [] → IsPermutation (take k cases) (firsts ++ others) → IsPermutation (take (k + 1) cases) (firsts2 ++ others2)
placed_last cases k d firsts others firsts2 others2 low first last same =
    subst (λ xs. IsPermutation xs (firsts2 ++ others2)) (sym (take_more cases k d low))
    (subst (λ ys. IsPermutation (take k cases ++ get_or cases k d ∷ []) (ys ++ others2)) (sym first)
    (subst (λ ys. IsPermutation (take k cases ++ get_or cases k d ∷ []) (firsts ++ ys)) (sym last) (put_last (take k cases) firsts others (get_or cases k d) same)))

pub placed_first : (cases : List FailedCase) (k : ℕ) (d : FailedCase) (firsts others firsts2 others2 : List FailedCase) → k < length cases → firsts2 ≡ firsts ++ get_or cases k d ∷ [] → others2 ≡ others → IsPermutation (take k cases) (firsts ++ others) → IsPermutation (take (k + 1) cases) (firsts2 ++ others2)
placed_first cases k d firsts others firsts2 others2 low first last same =
    subst (λ xs. IsPermutation xs (firsts2 ++ others2)) (sym (take_more cases k d low))
    (subst (λ ys. IsPermutation (take k cases ++ get_or cases k d ∷ []) (ys ++ others2)) (sym first)
    (subst (λ ys. IsPermutation (take k cases ++ get_or cases k d ∷ []) ((firsts ++ get_or cases k d ∷ []) ++ ys)) (sym last) (put_first (take k cases) firsts others (get_or cases k d) same)))

-- an order of an order is one
pub ordered_again : {E : Type 0} (xs ys : List FailedCase) (r : Result (Vec FailedCase Global) E) → IsPermutation xs ys → IfOk r (λ list. IsPermutation ys list.items) → IfOk r (λ list. IsPermutation xs list.items)
ordered_again xs ys (Ok list) same is = IsPermutation-trans xs ys list.items same is
ordered_again xs ys (Err e) same is = tt
