-- What lies under the lock stays well formed.
use Rattle.std.proofs.Common.{◌≡◌, ℕ, ◌==◌, ◌&&◌, ◌+◌, ◌<◌, ◌≤◌, arith, Bool, true, false, List, [], ◌∷◌, ◌++◌, All, refl, ap, ap₂, sym, ◌∙◌, subst, map, cond, append-nil, append_assoc}
use Rattle.std.proofs.lemmas.List.Elements.{All-nil, All-weaker, All-push, All-head, All-tail}
use Rattle.std.specs.Prelude.{not, nat_lt, if◌then◌else◌}
use Rattle.std.proofs.lemmas.Bool.{false≢true, eqb-true, eq-eqb, lt-ltb, le-ltb}
use Rattle.std.proofs.lemmas.List.Sums.{sum_by-append, sum_by-cons}
use Rattle.std.proofs.lemmas.List.Sorted.{All-permutation, sum_by-IsPermutation}
use Rattle.std.specs.List.Sorted.{IsPermutation}
use Rattle.std.proofs.lemmas.List.{map-append}
use mathlib.Core.List.{IsPrefix}
use Rattle.kr_model.specs.declared.Event.{Event}
use Rattle.kr_model.specs.declared.Op.{Op}
use Rattle.kr_model.specs.declared.Refusal.{Refusal}
use Rattle.kr_model.specs.declared.Reply.{Reply}
use Rattle.kr_model.specs.declared.Reply.TheVariants as reply
use Rattle.kr_model.specs.Run.{is_granted}
use Rattle.kr_ghost.specs.Step.{Outcome, step}
use Rattle.kr_model.specs.Map.{Map}
use Rattle.kr_deadlock.specs.declared.Waiting.{Waiting}
use Rattle.kr_deadlock.specs.Waits.{blockers_of, IsCycle}
use Rattle.kr_deadlock.proofs.Cycles.{IsCycle-same}
use Rattle.kr_workers.specs.Waits.{blockers_now, event}
use Rattle.kr_script.specs.declared.not_done.StepFault.{StepFault}
use Rattle.kr_ghost.specs.declared.moves.Move.{Move}
use Rattle.kr_ghost.specs.declared.moves.Move.TheVariants.{Attempt, Purge}
use Rattle.kr_ghost.specs.Protocol.{GhostProtocol}
use Rattle.kr_ghost.specs.State.{GhostState, opened}
use Rattle.kr_ghost.specs.Run.{run}
use Rattle.kr_ghost_run.specs.declared.ran.Answer.{Answer}
use Rattle.kr_ghost_run.specs.Ran.{answers}
use Rattle.kr_ghost_threads.specs.declared.made.Made.{Made}
use Rattle.kr_ghost_threads.specs.Histories.{IsHistory, moves_of, answers_of, is_done, steps_in, steps_of}
use Rattle.kr_workers.specs.Counts.{done_by, missed_before}
use Rattle.kr_ghost_threads.specs.Told.{IsTold, IsCause, IsKernel, AreWaiting, CountsOne, come_to, missed_by, entry_of, asked_of, in_the_way}
use Rattle.kr_ghost_threads.proofs.Runs.{after, answer_to, last_more, answers_more, step_stays}

pub none_waiting : (p : GhostProtocol) (s : GhostState) → AreWaiting p s []
none_waiting p s = record { ops = []; each = refl }

-- At first.
pub begins : (p : GhostProtocol) (opening : Map) (own : GhostProtocol) (s : GhostState) (counts : ℕ → ℕ) → own ≡ p → s ≡ opened opening → ((t : ℕ) → counts t ≡ 0) → IsKernel p opening own s [] [] counts []
begins p opening own s counts same starts none = record {
  protocol = same;
  history = record { answers = refl; last = sym starts };
  done = All-nil (λ (m : Made). is_done m.answer ≡ true);
  told = All-nil (IsTold p opening [] []);
  come = All-nil (λ (f : StepFault). f.step ≤ come_to [] [] f.txn);
  counted = none;
  waiting = none_waiting p s;
}

-- One more move of a history.
history_more : (p : GhostProtocol) (opening : Map) (h : List Made) (s : GhostState) (m : Made) → IsHistory p opening h s → m.answer ≡ answer_to p s m.next → IsHistory p opening (h ++ m ∷ []) (after p s m.next)
history_more p opening h s m is told =
    let ms = moves_of h in
    let z = opened opening in
    let more : moves_of (h ++ m ∷ []) ≡ ms ++ m.next ∷ [] = map-append _ h (m ∷ []) in
    record {
      answers = map-append _ h (m ∷ [])
          ∙ ap₂ (λ (l : List Answer) (a : Answer). l ++ a ∷ []) is.answers (told ∙ ap (λ (x : GhostState). answer_to p x m.next) (sym is.last))
          ∙ sym (answers_more p z ms m.next)
          ∙ ap (λ (l : List Move). answers p z l) (sym more);
      last = ap (λ (l : List Move). let r = run p z l in r.last) more ∙ last_more p z ms m.next ∙ ap (λ (x : GhostState). after p x m.next) is.last;
    }

-- Counts --

abbrev one_if : Bool → ℕ
one_if b = if b then 1 else 0

steps_append : (a b : List Move) → steps_in (a ++ b) ≡ steps_in a ++ steps_in b
steps_append [] b = refl
steps_append (Attempt e ∷ a) b = ap (λ (l : List Event). e ∷ l) (steps_append a b)
steps_append (Purge k ∷ a) b = steps_append a b

-- The steps of a transaction in a history with one more move.
done_more : (t : ℕ) (h : List Made) (m : Made) → done_by t (steps_of (h ++ m ∷ [])) ≡ done_by t (steps_of h) + done_by t (steps_in (m.next ∷ []))
done_more t h m =
    ap (λ (l : List Move). done_by t (steps_in l)) (map-append _ h (m ∷ []))
    ∙ ap (λ (l : List Event). done_by t l) (steps_append (moves_of h) (m.next ∷ []))
    ∙ sum_by-append (λ (e : Event). one_if (e.txn == t)) (steps_of h) (steps_in (m.next ∷ []))

-- The faults of a transaction with one more.
missed_more : (t : ℕ) (fs : List StepFault) (f : StepFault) → missed_by t (fs ++ f ∷ []) ≡ missed_by t fs + one_if (f.txn == t)
missed_more t fs f = sum_by-append (λ (g : StepFault). one_if (g.txn == t)) fs (f ∷ []) ∙ omega arith

swapped : (t u : ℕ) → (t == u) ≡ (u == t)
swapped t u = by (t == u) refl
  where
    by : (b : Bool) → (t == u) ≡ b → b ≡ (u == t)
    by true is = sym (eq-eqb u t (sym (eqb-true t u is)))
    by false is = by_other (u == t) refl
      where
        by_other : (c : Bool) → (u == t) ≡ c → false ≡ c
        by_other true same = absurd (false≢true (sym is ∙ eq-eqb t u (sym (eqb-true u t same))))
        by_other false same = refl

-- A step more that is done is counted.
pub counts_step : (h : List Made) (fs : List StepFault) (e : Event) (a : Answer) (old new : ℕ → ℕ) → ((t : ℕ) → old t ≡ come_to h fs t) → CountsOne e.txn old new
    → (t : ℕ) → new t ≡ come_to (h ++ record { next = Attempt e; answer = a } ∷ []) fs t
counts_step h fs e a old new is one t =
    let m : Made = record { next = Attempt e; answer = a } in
    let more = done_more t h m in
    let was = is t in
    let now = one t in
    let same : one_if (t == e.txn) ≡ one_if (e.txn == t) = ap one_if (swapped t e.txn) in
    omega (arith, more, was, now, same)

-- A purge counts nothing.
pub counts_purge : (h : List Made) (fs : List StepFault) (k : ℕ) (a : Answer) (counts : ℕ → ℕ) → ((t : ℕ) → counts t ≡ come_to h fs t) → (t : ℕ) → counts t ≡ come_to (h ++ record { next = Purge k; answer = a } ∷ []) fs t
counts_purge h fs k a counts is t =
    let m : Made = record { next = Purge k; answer = a } in
    let more = done_more t h m in
    let was = is t in
    omega (arith, more, was)

-- So is a step more that is left out.
counts_fault : (h : List Made) (fs : List StepFault) (f : StepFault) (old new : ℕ → ℕ) → ((t : ℕ) → old t ≡ come_to h fs t) → CountsOne f.txn old new → (t : ℕ) → new t ≡ come_to h (fs ++ f ∷ []) t
counts_fault h fs f old new is one t =
    let more = missed_more t fs f in
    let was = is t in
    let now = one t in
    let same : one_if (t == f.txn) ≡ one_if (f.txn == t) = ap one_if (swapped t f.txn) in
    omega (arith, more, was, now, same)

-- All faults of a transaction come before a step to which it comes later.
all_before : (t n : ℕ) (fs : List StepFault) → All (λ (f : StepFault). f.txn ≡ t → f.step < n) fs → missed_before fs t n ≡ missed_by t fs
all_before t n [] low = refl
all_before t n (f ∷ fs) low =
    sum_by-cons (λ (x : StepFault). one_if ((x.txn == t) && nat_lt x.step n)) f fs
    ∙ ap₂ (λ (x y : ℕ). x + y) (by (f.txn == t) refl) (all_before t n fs (All-tail (λ (g : StepFault). g.txn ≡ t → g.step < n) f fs low))
    ∙ sym (sum_by-cons (λ (x : StepFault). one_if (x.txn == t)) f fs)
  where
    by : (b : Bool) → (f.txn == t) ≡ b → one_if (b && nat_lt f.step n) ≡ one_if b
    by true is = ap one_if (lt-ltb f.step n (All-head (λ (g : StepFault). g.txn ≡ t → g.step < n) f fs low (eqb-true f.txn t is)))
    by false is = refl

-- A later fault isn't before an earlier one.
none_later : (fs : List StepFault) (f g : StepFault) → (f.txn ≡ g.txn → g.step ≤ f.step) → missed_before (fs ++ f ∷ []) g.txn g.step ≡ missed_before fs g.txn g.step
none_later fs f g late = sum_by-append (λ (x : StepFault). one_if ((x.txn == g.txn) && nat_lt x.step g.step)) fs (f ∷ []) ∙ (let none = by (f.txn == g.txn) refl in omega (arith, none))
  where
    by : (b : Bool) → (f.txn == g.txn) ≡ b → one_if (b && nat_lt f.step g.step) ≡ 0
    by true is = ap one_if (le-ltb f.step g.step (late (eqb-true f.txn g.txn is)))
    by false is = refl

-- What lies under the lock --

told_more : (p : GhostProtocol) (opening : Map) (faults : List StepFault) (h : List Made) (m : Made) (f : StepFault) → IsTold p opening faults h f → IsTold p opening faults (h ++ m ∷ []) f
told_more p opening faults h m f t = record {
  before = t.before;
  state = t.state;
  begins = (t.begins.0 ++ m ∷ [], sym (append_assoc t.before t.begins.0 (m ∷ [])) ∙ ap (λ (l : List Made). l ++ m ∷ []) t.begins.1);
  run = t.run;
  cause = t.cause;
  placed = t.placed;
}

-- A move that is done, to this state.
pub one_more : (p : GhostProtocol) (opening : Map) (own : GhostProtocol) (s s' : GhostState) (h : List Made) (faults : List StepFault) (counts counts' : ℕ → ℕ) (waits : List Waiting) (m : Made)
    → IsKernel p opening own s h faults counts waits → m.answer ≡ answer_to own s m.next → s' ≡ after own s m.next → is_done m.answer ≡ true → ((t : ℕ) → counts' t ≡ come_to (h ++ m ∷ []) faults t)
    → IsKernel p opening own s' (h ++ m ∷ []) faults counts' []
one_more p opening own s s' h faults counts counts' waits m k told to is counted = record {
  protocol = k.protocol;
  history = subst (IsHistory p opening (h ++ m ∷ [])) (sym (to ∙ ap (λ (q : GhostProtocol). after q s m.next) k.protocol))
      (history_more p opening h s m k.history (told ∙ ap (λ (q : GhostProtocol). answer_to q s m.next) k.protocol));
  done = All-push (λ (m : Made). is_done m.answer ≡ true) h m k.done is;
  told = All-weaker (IsTold p opening faults h) (IsTold p opening faults (h ++ m ∷ [])) (told_more p opening faults h m) faults k.told;
  come = All-weaker (λ (f : StepFault). f.step ≤ come_to h faults f.txn) (λ (f : StepFault). f.step ≤ come_to (h ++ m ∷ []) faults f.txn) (λ f low. let more = done_more f.txn h m in omega (arith, low, more)) faults k.come;
  counted = counted;
  waiting = none_waiting p s';
}

-- A step more that is left out.
pub left_out_more : (p : GhostProtocol) (opening : Map) (own : GhostProtocol) (s : GhostState) (h : List Made) (faults : List StepFault) (counts counts' : ℕ → ℕ) (waits : List Waiting) (f : StepFault)
    → IsKernel p opening own s h faults counts waits → IsCause own s f.txn f.op f.cause → f.step ≡ counts f.txn + 1 → CountsOne f.txn counts counts' → IsKernel p opening own s h (faults ++ f ∷ []) counts' waits
left_out_more p opening own s h faults counts counts' waits f k cause number one =
    let all = faults ++ f ∷ [] in
    let last : f.step ≡ come_to h faults f.txn + 1 = number ∙ ap (λ (n : ℕ). n + 1) (k.counted f.txn) in
    let low : All (λ (g : StepFault). g.txn ≡ f.txn → g.step < f.step) faults =
    All-weaker (λ (g : StepFault). g.step ≤ come_to h faults g.txn) (λ (g : StepFault). g.txn ≡ f.txn → g.step < f.step) (λ g below same. let here = ap (come_to h faults) same in omega (arith, below, here, last)) faults k.come in
    let own_missed : missed_before all f.txn f.step ≡ missed_by f.txn faults = none_later faults f f (λ same. omega arith) ∙ all_before f.txn f.step faults low in
    let kept : (g : StepFault) → g.step ≤ come_to h faults g.txn → missed_before all g.txn g.step ≡ missed_before faults g.txn g.step =
    λ g below. none_later faults f g (λ same. let here = ap (come_to h faults) same in omega (arith, below, here, last)) in
    let both : All (λ (g : StepFault). IsTold p opening faults h g × (g.step ≤ come_to h faults g.txn)) faults = λ i d low. (k.told i d low, k.come i d low) in
    record {
      protocol = k.protocol;
      history = k.history;
      done = k.done;
      told = All-push (IsTold p opening all h) faults f
          (All-weaker (λ (g : StepFault). IsTold p opening faults h g × (g.step ≤ come_to h faults g.txn)) (IsTold p opening all h)
          (λ g t. record {
            before = t.0.before;
            state = t.0.state;
            begins = t.0.begins;
            run = t.0.run;
            cause = t.0.cause;
            placed = let same = kept g t.1 in let was = t.0.placed in omega (arith, same, was);
          }) faults both)
          (record {
            before = h;
            state = s;
            begins = ([], append-nil h);
            run = k.history;
            cause = subst (λ (q : GhostProtocol). IsCause q s f.txn f.op f.cause) k.protocol cause;
            placed = omega (arith, own_missed, last);
          });
      come = All-push (λ (g : StepFault). g.step ≤ come_to h all g.txn) faults f
          (All-weaker (λ (g : StepFault). g.step ≤ come_to h faults g.txn) (λ (g : StepFault). g.step ≤ come_to h all g.txn) (λ g below. let more = missed_more g.txn faults f in omega (arith, below, more)) faults k.come)
          (let more = missed_more f.txn faults f in let same = ap one_if (eq-eqb f.txn f.txn refl) in omega (arith, more, same, last));
      counted = counts_fault h faults f counts counts' k.counted one;
      waiting = k.waiting;
    }

-- A step more that is blocked.
pub waiting_more : (p : GhostProtocol) (opening : Map) (own : GhostProtocol) (s : GhostState) (h : List Made) (faults : List StepFault) (counts : ℕ → ℕ) (waits : List Waiting) (w : Waiting) (o : Op)
    → IsKernel p opening own s h faults counts waits → w.blockers.items ≡ in_the_way own s (event w.txn o) → IsKernel p opening own s h faults counts (w ∷ waits)
waiting_more p opening own s h faults counts waits w o k blocked = record {
  protocol = k.protocol;
  history = k.history;
  done = k.done;
  told = k.told;
  come = k.come;
  counted = k.counted;
  waiting = record {
    ops = event w.txn o ∷ k.waiting.ops;
    each = ap₂ (λ (us : List ℕ) (l : List (ℕ × List ℕ)). (w.txn, us) ∷ l) (blocked ∙ ap (λ (q : GhostProtocol). in_the_way q s (event w.txn o)) k.protocol) k.waiting.each;
  };
}

-- None any more.
pub waiting_none : (p : GhostProtocol) (opening : Map) (own : GhostProtocol) (s : GhostState) (h : List Made) (faults : List StepFault) (counts : ℕ → ℕ) (waits : List Waiting) → IsKernel p opening own s h faults counts waits → IsKernel p opening own s h faults counts []
waiting_none p opening own s h faults counts waits k = record { protocol = k.protocol; history = k.history; done = k.done; told = k.told; come = k.come; counted = k.counted; waiting = none_waiting p s }

-- The faults in another order.
pub told_in_order : (p : GhostProtocol) (opening : Map) (faults sorted : List StepFault) (h : List Made) → IsPermutation faults sorted → All (IsTold p opening faults h) faults → All (IsTold p opening sorted h) sorted
told_in_order p opening faults sorted h shuffled told =
    All-weaker (IsTold p opening faults h) (IsTold p opening sorted h)
    (λ f t. record {
      before = t.before;
      state = t.state;
      begins = t.begins;
      run = t.run;
      cause = t.cause;
      placed = let same = sum_by-IsPermutation (λ (x : StepFault). one_if ((x.txn == f.txn) && nat_lt x.step f.step)) faults sorted shuffled in let was = t.placed in omega (arith, same, was);
    }) sorted (All-permutation (IsTold p opening faults h) faults sorted shuffled told)

-- Who blocks whom in the search is who does now.
same_blockers : (f : Event → List ℕ) (waits : List Waiting) (ops : List Event) → map entry_of waits ≡ map (asked_of f) ops → (t : ℕ) → blockers_of waits t ≡ blockers_now f ops t
same_blockers f [] [] is t = refl
same_blockers f [] (e ∷ ops) is t = absurd (cc (is))
same_blockers f (w ∷ waits) [] is t = absurd (cc (is))
same_blockers f (w ∷ waits) (e ∷ ops) is t =
    let first : entry_of w ≡ asked_of f e = cc (is) in
    let txn : w.txn ≡ e.txn = ap (λ (x : ℕ × List ℕ). x.0) first in
    let us : w.blockers.items ≡ f e = ap (λ (x : ℕ × List ℕ). x.1) first in
    let rest : map entry_of waits ≡ map (asked_of f) ops = cc (is) in
    λ i. cond (txn i == t) (us i) (same_blockers f waits ops rest t i)

-- A cycle that the search finds is one of the operations that are blocked now.
pub found_cycle : (p : GhostProtocol) (opening : Map) (own : GhostProtocol) (s : GhostState) (h : List Made) (faults : List StepFault) (counts : ℕ → ℕ) (waits : List Waiting) (w : Waiting) (o : Op) (cycle : List ℕ)
    → IsKernel p opening own s h faults counts waits → w.blockers.items ≡ in_the_way own s (event w.txn o) → IsCycle (blockers_of (w ∷ waits)) w.txn cycle
    → (waiting : List Event) × IsCycle (blockers_now (in_the_way own s) (event w.txn o ∷ waiting)) w.txn cycle
found_cycle p opening own s h faults counts waits w o cycle k blocked is =
    let ops = k.waiting.ops in
    let each : map entry_of waits ≡ map (asked_of (in_the_way own s)) ops = subst (λ (q : GhostProtocol). map entry_of waits ≡ map (asked_of (in_the_way q s)) ops) (sym k.protocol) k.waiting.each in
    let all : map entry_of (w ∷ waits) ≡ map (asked_of (in_the_way own s)) (event w.txn o ∷ ops) = ap₂ (λ (us : List ℕ) (l : List (ℕ × List ℕ)). (w.txn, us) ∷ l) blocked each in
    (ops, IsCycle-same _ _ (same_blockers (in_the_way own s) (w ∷ waits) (event w.txn o ∷ ops) all) w.txn cycle is)

-- The machine stays as it was.
pub stays : (p : GhostProtocol) (opening : Map) (own own' : GhostProtocol) (s s' : GhostState) (h : List Made) (faults : List StepFault) (counts : ℕ → ℕ) (waits : List Waiting)
    → own' ≡ own → s' ≡ s → IsKernel p opening own s h faults counts waits → IsKernel p opening own' s' h faults counts waits
stays p opening own own' s s' h faults counts waits same at k =
    subst (λ (x : GhostState). IsKernel p opening own' x h faults counts waits) (sym at) (subst (λ (q : GhostProtocol). IsKernel p opening q s h faults counts waits) (sym same) k)

-- A step that isn't granted leaves the state.
pub not_granted : (own : GhostProtocol) (s s' : GhostState) (t : ℕ) (o : Op) (r : Reply) → step own s t o ≡ (r, s') → is_granted r ≡ false → s' ≡ s
not_granted own s s' t o r is ungranted = sym (ap (λ (x : Outcome). x.1) is) ∙ step_stays own s t o (ap (λ (x : Outcome). is_granted x.0) is ∙ ungranted)

-- So its reply is the same again.
pub again : (own own' : GhostProtocol) (s s' : GhostState) (t : ℕ) (o : Op) (r : Reply) → own' ≡ own → step own s t o ≡ (r, s') → is_granted r ≡ false → r ≡ (step own' s' t o).0
again own own' s s' t o r same is ungranted =
    let at : s' ≡ s = not_granted own s s' t o r is ungranted in
    sym (ap (λ (x : Outcome). x.0) is) ∙ (λ i. (step (sym same i) (sym at i) t o).0)

pub was_added : (b : Bool) → not b ≡ false → b ≡ true
was_added true is = refl
was_added false is = absurd (false≢true (sym is))

-- The same, told of the parts that code has.
pub more_made : (p : GhostProtocol) (opening : Map) (own own' : GhostProtocol) (s : GhostState) (h h' : List Made) (faults : List StepFault) (counts : ℕ → ℕ) (waits : List Waiting) (m : Made)
    → own' ≡ own → h' ≡ h ++ m ∷ [] → waits ≡ [] → IsKernel p opening own s (h ++ m ∷ []) faults counts [] → IsKernel p opening own' s h' faults counts waits
more_made p opening own own' s h h' faults counts waits m same more none k =
    let at : IsKernel p opening own' s (h ++ m ∷ []) faults counts [] = stays p opening own own' s s (h ++ m ∷ []) faults counts [] same refl k in
    subst (λ (l : List Made). IsKernel p opening own' s l faults counts waits) (sym more) (subst (IsKernel p opening own' s (h ++ m ∷ []) faults counts) (sym none) at)

-- A reply that is neither blocked nor refused is granted.
pub is_granted_else : (r : Reply) → ((us : List ℕ) → r ≡ reply.Blocked us → ⊥) → ((why : Refusal) → r ≡ reply.Refused why → ⊥) → is_granted r ≡ true
is_granted_else (reply.Blocked us) free asked = absurd (free us refl)
is_granted_else (reply.Refused why) free asked = absurd (asked why refl)
is_granted_else (reply.Found v) free asked = refl
is_granted_else reply.None free asked = refl
is_granted_else (reply.Going k) free asked = refl
is_granted_else (reply.Rows rows) free asked = refl
is_granted_else reply.Done free asked = refl
is_granted_else reply.Duplicate free asked = refl
is_granted_else (reply.Deleted v) free asked = refl
is_granted_else reply.Absent free asked = refl
is_granted_else (reply.Updated v) free asked = refl
is_granted_else reply.Committed free asked = refl
is_granted_else reply.Aborted free asked = refl
is_granted_else (reply.Undone n) free asked = refl
