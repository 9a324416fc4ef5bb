-- The scenes of a run whose first steps are done.
use Rattle.std.specs.Prelude.{◌≡◌, ℕ, List, [], ◌∷◌, ◌+◌, ◌-◌, ◌<◌, ◌++◌, drop, length, map, Result, Ok, Err, IfOk}
use Rattle.std.specs.List.{enumerate_from}
use Rattle.std.proofs.Common.{ap, get_or, subst, sym, ◌∙◌, arith, append_assoc}
use Rattle.std.proofs.lemmas.List.{drop_more, map-append}
use Rattle.kr_model.specs.declared.Event.{Event}
use Rattle.kr_model.specs.Protocol.{Protocol}
use Rattle.kr_model.specs.Map.{Map}
use Rattle.kr_model.specs.State.{State, start}
use Rattle.kr_model.specs.Step.{step}
use Rattle.kr_model.specs.Run.{run}
use Rattle.kr_view_scenes.specs.declared.act.Act.TheVariants as act
use Rattle.kr_view_scenes.specs.declared.run.TheConstants.{STEPS_DRAWN}
use Rattle.kr_view_scenes.specs.declared.scene.Scene.{Scene}
use Rattle.kr_view_scenes.specs.declared.scenes.Drawn.{Drawn}
use Rattle.kr_view_scenes.specs.Scenes.{NumberedStep, act_of, step_of, drawn_steps}

-- the steps of a run from a state, the first with this number
abbrev pub numbered : Protocol → State → ℕ → List Event → List NumberedStep
numbered p s n events = enumerate_from n (map act_of (run p s events).history)

-- The scenes so far, then the steps that are left, are the steps of the whole run from `first`, which has the number `one` at its first step.
pub record IsRest (p : Protocol) (first : State) (one : ℕ) (all : List Event) (now : State) (next : ℕ) (left : List Event) (scenes : List Scene) : Type 0 where
  pub scenes_are : map step_of scenes ++ numbered p now next left ≡ numbered p first one all

-- one more scene, and one step less
pub one_more : (p : Protocol) (first : State) (one : ℕ) (all : List Event) (now : State) (next : ℕ) (e : Event) (left : List Event) (scenes : List Scene) (scene : Scene) (after : State)
    → IsRest p first one all now next (e ∷ left) scenes → step_of scene ≡ (next, act.Attempt e (step p now e.txn e.op).0) → after ≡ (step p now e.txn e.op).1
    → IsRest p first one all after (next + 1) left (scenes ++ scene ∷ [])
one_more p first one all now next e left scenes scene after rest shows is_after =
    let here : NumberedStep = (next, act.Attempt e (step p now e.txn e.op).0) in
    let tail : List NumberedStep = numbered p (step p now e.txn e.op).1 (next + 1) left in
    let scenes_with : map step_of (scenes ++ scene ∷ []) ≡ map step_of scenes ++ here ∷ [] = map-append step_of scenes (scene ∷ []) ∙ ap (λ (x : NumberedStep). map step_of scenes ++ x ∷ []) shows in
    record { scenes_are = ap (λ (s : State). map step_of (scenes ++ scene ∷ []) ++ numbered p s (next + 1) left) is_after ∙ ap (λ (xs : List NumberedStep). xs ++ tail) scenes_with ∙ append_assoc (map step_of scenes) (here ∷ []) tail ∙ rest.scenes_are }

-- the scene of the step at a place, behind the scenes so far
pub one_shown : (p q : Protocol) (first : State) (one : ℕ) (all : List Event) (now after : State) (next i : ℕ) (d : Event) (scenes more : List Scene) (scene : Scene) → q ≡ p → i < length all
    → IsRest p first one all now next (drop i all) scenes → (let e = get_or all i d in step_of scene ≡ (next, act.Attempt e (step q now e.txn e.op).0)) → (let e = get_or all i d in after ≡ (step q now e.txn e.op).1)
    → more ≡ scenes ++ scene ∷ [] → IsRest p first one all after (next + 1) (drop (i + 1) all) more
one_shown p q first one all now after next i d scenes more scene same within rest shows is_after items =
    let e = get_or all i d in
    let left = drop (i + 1) all in
    let here : IsRest p first one all now next (e ∷ left) scenes = subst (λ (es : List Event). IsRest p first one all now next es scenes) (drop_more all i d within) rest in
    let shown : step_of scene ≡ (next, act.Attempt e (step p now e.txn e.op).0) = shows ∙ ap (λ (t : Protocol). (let x : NumberedStep = (next, act.Attempt e (step t now e.txn e.op).0) in x)) same in
    let left_is : after ≡ (step p now e.txn e.op).1 = is_after ∙ ap (λ (t : Protocol). (step t now e.txn e.op).1) same in
    subst (λ (xs : List Scene). IsRest p first one all after (next + 1) left xs) (sym items) (one_more p first one all now next e left scenes scene after here shown left_is)

-- the steps of a run behind the first ones are those of the run from where these end, numbered on
steps_behind : (p : Protocol) (s : State) (earlier later : List Event) (n : ℕ) → drop (length earlier) (numbered p s n (earlier ++ later)) ≡ numbered p (run p s earlier).state (n + length earlier) later
steps_behind p s [] later n = ap (λ (k : ℕ). numbered p s k later) (omega arith)
steps_behind p s (e ∷ earlier) later n =
    let o = step p s e.txn e.op in
    let same : n + 1 + length earlier ≡ n + length (e ∷ earlier) = omega arith in
    steps_behind p o.1 earlier later (n + 1) ∙ ap (λ (k : ℕ). numbered p (run p o.1 earlier).state k later) same

-- the steps that are drawn are those behind the first ones
pub drawn_are : (p : Protocol) (opening : Map) (steps earlier drawn : List Event) (now : State) (shown : List NumberedStep) → length earlier ≡ length steps - STEPS_DRAWN → steps ≡ earlier ++ drawn
    → now ≡ (run p (start opening) earlier).state → shown ≡ numbered p now (length earlier + 1) drawn → shown ≡ drawn_steps p opening steps
drawn_are p opening steps earlier drawn now shown long split same are =
    let s = start opening in
    let number : length earlier + 1 ≡ 1 + length earlier = omega arith in
    let from : shown ≡ numbered p (run p s earlier).state (1 + length earlier) drawn = are ∙ ap (λ (k : ℕ). numbered p now k drawn) number ∙ ap (λ (x : State). numbered p x (1 + length earlier) drawn) same in
    let whole : drop (length earlier) (numbered p s 1 (earlier ++ drawn)) ≡ drawn_steps p opening steps = ap (λ (k : ℕ). drop k (numbered p s 1 (earlier ++ drawn))) long ∙ ap (λ (es : List Event). drop (length steps - STEPS_DRAWN) (numbered p s 1 es)) (sym split) in
    from ∙ sym (steps_behind p s earlier drawn 1) ∙ whole

-- the scenes of steps, where they are made, by what the steps are
pub same_steps : {E : Type 0} (r : Result Drawn E) (a b : List NumberedStep) → a ≡ b → IfOk r (λ drawn. map step_of drawn.scenes.items ≡ a) → IfOk r (λ drawn. map step_of drawn.scenes.items ≡ b)
same_steps (Ok drawn) a b same are = are ∙ same
same_steps (Err e) a b same are = tt

-- the same, where they are those of a run, by the table and the state that it begins with
pub same_run : {E : Type 0} (r : Result Drawn E) (p q : Protocol) (s t : State) (n : ℕ) (events : List Event) → p ≡ q → s ≡ t
    → IfOk r (λ drawn. map step_of drawn.scenes.items ≡ numbered p s n events) → IfOk r (λ drawn. map step_of drawn.scenes.items ≡ numbered q t n events)
same_run (Ok drawn) p q s t n events table state are = are ∙ ap (λ (x : Protocol). numbered x s n events) table ∙ ap (λ (x : State). numbered q x n events) state
same_run (Err e) p q s t n events table state are = tt
