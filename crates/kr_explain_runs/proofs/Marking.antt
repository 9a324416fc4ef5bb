-- The marked steps of a script.
use Rattle.std.specs.Prelude.{◌≡◌, ◌≢◌, ◌<◌, ◌+◌, ◌⊎◌, ℕ, List, Some, option_and_then, option_map, slice_get, take}
use Rattle.std.proofs.Common.{ap, sym, ◌∙◌, subst, refl, inl, inr, length, get_or, arith}
use Rattle.std.proofs.lemmas.Option.{slice_get_read}
use Rattle.kr_model.specs.declared.Cover.{Cover}
use Rattle.kr_model.specs.declared.Event.{Event}
use Rattle.kr_model.specs.declared.FailedCase.{FailedCase}
use Rattle.kr_model.specs.declared.Name.{Name}
use Rattle.kr_model.specs.declared.Side.{Side}
use Rattle.kr_model.specs.Locks.{own}
use Rattle.kr_model.specs.Map.{Map}
use Rattle.kr_model.specs.Plan.{access}
use Rattle.kr_model.specs.Protocol.{Protocol}
use Rattle.kr_judge.specs.Ran.{IsRanUnder}
use Rattle.kr_judge.specs.declared.ran.Ran.{Ran}
use Rattle.kr_explain_runs.specs.declared.counterexample.Counterexample.{Counterexample}
use Rattle.kr_explain_runs.specs.declared.fit.Fit.{Fit}
use Rattle.kr_explain_runs.specs.declared.fit.Fit.TheVariants as fit
use Rattle.kr_explain_runs.specs.declared.marks.Marks.{Marks}
use Rattle.kr_explain_runs.specs.declared.moment.Moment.{Moment}
use Rattle.kr_explain_runs.specs.Marks.{AreMarked, IsAside, IsCasesLock, IsChanged, IsTaken, Takes, access_at, mode_before, state_before}
use Rattle.kr_explain_runs.specs.Moments.{AreAside, AreMarksOf, IsLetIn, IsMoment, IsMomentAt}
use Rattle.kr_explain_runs.specs.Requests.{IsOn, IsRequestOf, access_in, name_at, txn_at}

-- The moment of a step --

-- the step at its place, after the run of those before it, where the script was read by slices
pub moment_of : (p : Protocol) (c : Counterexample) (m : Moment) (e : Event) (ran : Ran) (opening index : Map) (events : List Event) → opening ≡ c.opening.items → events ≡ c.events.items → index ≡ ran.index → m.place < length events → e ≡ get_or events m.place e → IsRanUnder p opening (take m.place events) ran → Some (access m.access.0 m.access.1 m.access.2) ≡ access_in index e.op → e.txn ≡ m.txn → m.locks ≡ ran.locks → IsMoment p c m
moment_of p c m e ran opening index events same_opening same_events same_index low at under is same_txn same_locks =
    let here : slice_get c.events.items m.place ≡ Some e = subst (λ (es : List Event). slice_get es m.place ≡ Some e) same_events (slice_get_read events _ m.place e refl low at) in
    let ran_there : IsRanUnder p c.opening.items (take m.place c.events.items) ran = subst (λ (es : List Event). IsRanUnder p c.opening.items (take m.place es) ran) same_events (subst (λ (o : Map). IsRanUnder p o (take m.place events) ran) same_opening under) in
    record {
      txn = ap (option_map (λ (e : Event). e.txn)) here ∙ ap Some same_txn;
      access = ap (option_and_then (λ (e : Event). access_in (let s = state_before p c.opening.items c.events.items m.place in s.map) e.op)) here ∙ subst (λ (i : Map). access_in i e.op ≡ Some (access m.access.0 m.access.1 m.access.2)) (same_index ∙ ran_there.index) (sym is);
      locks = same_locks ∙ ran_there.locks;
    }

-- Steps between the marked ones --

-- another's step
pub other_aside : (p : Protocol) (c : Counterexample) (n : Name) (place t : ℕ) → txn_at c.events.items place ≡ Some t → t ≢ c.holder → IsAside p c n place
other_aside p c n place t is other = λ holders. absurd (other (same (sym is ∙ holders)))
  where
    same : {x y : ℕ} → Some x ≡ Some y → x ≡ y
    same e = cc

-- a step that requests a lock on other names
pub elsewhere_aside : (p : Protocol) (c : Counterexample) (n : Name) (place : ℕ) (m : Moment) → IsMomentAt p c place m → (IsOn n (access m.access.0 m.access.1 m.access.2) → ⊥) → IsAside p c n place
elsewhere_aside p c n place m there away = subst (IsAside p c n) there.at (λ holders. (access m.access.0 m.access.1 m.access.2, (there.moment.access, away)))

-- one place more
pub next_aside : (p : Protocol) (c : Counterexample) (n : Name) (place : ℕ) → AreAside p c n place → IsAside p c n place → AreAside p c n (place + 1)
next_aside p c n place below here k above low = split (cases k place low)
  where
    cases : (k n : ℕ) → k < n + 1 → (k < n) ⊎ (k ≡ n)
    cases k n low = grind arith

    split : (k < place) ⊎ (k ≡ place) → IsAside p c n k
    split (inl less) = below k above less
    split (inr same) = subst (IsAside p c n) (sym same) here

-- there are none yet
pub none_aside : (p : Protocol) (c : Counterexample) (n : Name) → AreAside p c n (c.weak + 1)
none_aside p c n k above low = absurd (omega (arith, above, low))

-- The lock that is too weak --

-- the mode that the holder has before a step
mode_then : (p : Protocol) (c : Counterexample) (n : Name) (place : ℕ) (m : Moment) → IsMomentAt p c place m → mode_before p c n place ≡ own m.locks c.holder n
mode_then p c n place m there = subst (λ k. mode_before p c n k ≡ own m.locks c.holder n) there.at (sym (ap (λ h. own h c.holder n) there.moment.locks))

-- the step takes the case's lock
pub takes_by : (p : Protocol) (f : FailedCase) (c : Counterexample) (n : Name) (side : Side) (m : Moment) → IsMoment p c m → m.txn ≡ c.holder → name_at side (access m.access.0 m.access.1 m.access.2) ≡ Some n → IsRequestOf p f.case f.from m.locks c.holder n side (access m.access.0 m.access.1 m.access.2) → Takes p f c n m.place
takes_by p f c n side m moment own at request = record {
  holders = moment.txn ∙ ap Some own;
  access = access m.access.0 m.access.1 m.access.2;
  access_is = moment.access;
  side = side;
  at_side = at;
  request = subst (λ h. IsRequestOf p f.case f.from h c.holder n side (access m.access.0 m.access.1 m.access.2)) moment.locks request;
}

-- the marked step takes the case's lock
pub cases_taken : (p : Protocol) (f : FailedCase) (c : Counterexample) (m : Marks) → AreMarksOf p f.cover c m → Takes p f c m.name m.own.place → own m.through.locks c.holder m.name ≡ f.mode → IsTaken p f c m.name ⊎ IsChanged p f c m.name
cases_taken p f c m marks takes mode = inl (record {
  takes = subst (Takes p f c m.name) marks.own.at takes;
  mode = mode_then p c m.name c.let_in m.through marks.through ∙ mode;
})

-- the step before it does
pub cases_changed : (p : Protocol) (f : FailedCase) (c : Counterexample) (m : Marks) (place : ℕ) → AreMarksOf p f.cover c m → place + 1 ≡ c.weak → Takes p f c m.name place → own m.own.locks c.holder m.name ≡ f.mode → own m.through.locks c.holder m.name ≢ f.mode → IsTaken p f c m.name ⊎ IsChanged p f c m.name
cases_changed p f c m place marks next takes mode other = inr (record {
  place = place;
  next = next;
  takes = takes;
  mode = mode_then p c m.name c.weak m.own marks.own ∙ mode;
  changed = λ same. other (sym (mode_then p c m.name c.let_in m.through marks.through) ∙ same);
})

-- taken as the case says
pub of_case : (p : Protocol) (f : FailedCase) (near : Fit) (c : Counterexample) (n : Name) → near ≡ fit.Case → IsTaken p f c n ⊎ IsChanged p f c n → IsCasesLock p f near c n
of_case p f near c n is lock = subst (λ (x : Fit). IsCasesLock p f x c n) (sym is) lock

-- the holder has the case's mode
pub of_mode : (p : Protocol) (f : FailedCase) (near : Fit) (c : Counterexample) (m : Marks) → near ≡ fit.Mode → AreMarksOf p f.cover c m → own m.through.locks c.holder m.name ≡ f.mode → IsCasesLock p f near c m.name
of_mode p f near c m is marks mode = subst (λ (x : Fit). IsCasesLock p f x c m.name) (sym is) (mode_then p c m.name c.let_in m.through marks.through ∙ mode)

-- The marks --

-- the marks that were found
pub marks_found : (p : Protocol) (cover : Cover) (c : Counterexample) (m : Marks) → IsMomentAt p c c.let_in m.through → IsMomentAt p c c.weak m.own → IsLetIn p cover c (access m.through.access.0 m.through.access.1 m.through.access.2) m.name → c.weak < c.let_in → IsOn m.name (access m.own.access.0 m.own.access.1 m.own.access.2) → AreMarksOf p cover c m
marks_found p cover c m through own let_in before on = record { through = through; own = own; let_in = let_in; before = before; on_name = on }

-- all marks together
pub all_marked : (p : Protocol) (f : FailedCase) (near : Fit) (c : Counterexample) (m : Marks) → AreMarksOf p f.cover c m → AreAside p c m.name c.let_in → IsCasesLock p f near c m.name → AreMarked p f near c
all_marked p f near c m marks aside lock = record {
  through = access m.through.access.0 m.through.access.1 m.through.access.2;
  through_is = subst (λ k. access_at p c.opening.items c.events.items k ≡ Some (access m.through.access.0 m.through.access.1 m.through.access.2)) marks.through.at marks.through.moment.access;
  row = marks.let_in.row;
  name = m.name;
  at_side = marks.let_in.at_side;
  kept_out = marks.let_in.kept_out;
  before = marks.before;
  own = access m.own.access.0 m.own.access.1 m.own.access.2;
  own_is = subst (λ k. access_at p c.opening.items c.events.items k ≡ Some (access m.own.access.0 m.own.access.1 m.own.access.2)) marks.own.at marks.own.moment.access;
  on_name = marks.on_name;
  last = aside;
  lock = lock;
}
