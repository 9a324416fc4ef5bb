-- The scenes of a run whose first moves are done.
use Rattle.std.specs.Prelude.{◌≡◌, ℕ, List, [], ◌∷◌, ◌+◌, ◌-◌, ◌<◌, ◌++◌, drop, length, map, Result, Ok, Err, IfOk, refl}
use Rattle.std.specs.List.{enumerate_from}
use Rattle.std.proofs.Common.{ap, ap₂, get_or, subst, sym, ◌∙◌, arith, append_assoc}
use Rattle.std.proofs.lemmas.List.{drop_more, map-append}
use Rattle.kr_model.specs.Map.{Map}
use Rattle.kr_ghost.specs.declared.moves.Move.{Move}
use Rattle.kr_ghost.specs.Protocol.{GhostProtocol}
use Rattle.kr_ghost.specs.State.{GhostState, opened}
use Rattle.kr_view_scenes.specs.declared.run.TheConstants.{STEPS_DRAWN}
use Rattle.kr_view_scenes.specs.declared.scene.Scene.{Scene}
use Rattle.kr_view_scenes.specs.declared.scenes.Drawn.{Drawn}
use Rattle.kr_view_scenes.specs.Scenes.{NumberedStep, step_of}
use Rattle.kr_ghost_view.specs.Moves.{act_at, acts, after, after_all, drawn_moves}

-- what is done at the moves from a state, the first with this number
abbrev pub numbered : GhostProtocol → GhostState → ℕ → List Move → List NumberedStep
numbered p s n moves = enumerate_from n (acts p s moves)

-- The scenes so far, then the moves that are left, are the moves of the whole run from `first`, which has the number `one` at its first move.
pub record IsRest (p : GhostProtocol) (first : GhostState) (one : ℕ) (all : List Move) (now : GhostState) (next : ℕ) (left : List Move) (scenes : List Scene) : Type 0 where
  pub scenes_are : map step_of scenes ++ numbered p now next left ≡ numbered p first one all

-- one more scene, and one move less
one_more : (p : GhostProtocol) (first : GhostState) (one : ℕ) (all : List Move) (now : GhostState) (next : ℕ) (m : Move) (left : List Move) (scenes : List Scene) (scene : Scene) (then : GhostState)
    → IsRest p first one all now next (m ∷ left) scenes → step_of scene ≡ (next, act_at p now m) → then ≡ after p now m
    → IsRest p first one all then (next + 1) left (scenes ++ scene ∷ [])
one_more p first one all now next m left scenes scene then rest shows is_after =
    let here : NumberedStep = (next, act_at p now m) in
    let tail : List NumberedStep = numbered p (after p now m) (next + 1) left in
    let scenes_with : map step_of (scenes ++ scene ∷ []) ≡ map step_of scenes ++ here ∷ [] = map-append step_of scenes (scene ∷ []) ∙ ap (λ (x : NumberedStep). map step_of scenes ++ x ∷ []) shows in
    record { scenes_are = ap (λ (s : GhostState). map step_of (scenes ++ scene ∷ []) ++ numbered p s (next + 1) left) is_after ∙ ap (λ (xs : List NumberedStep). xs ++ tail) scenes_with ∙ append_assoc (map step_of scenes) (here ∷ []) tail ∙ rest.scenes_are }

-- the scene of the move at a place, behind the scenes so far
pub one_shown : (p q : GhostProtocol) (first : GhostState) (one : ℕ) (all : List Move) (now then : GhostState) (next i : ℕ) (d : Move) (scenes more : List Scene) (scene : Scene) → q ≡ p → i < length all
    → IsRest p first one all now next (drop i all) scenes → step_of scene ≡ (next, act_at q now (get_or all i d)) → then ≡ after q now (get_or all i d)
    → more ≡ scenes ++ scene ∷ [] → IsRest p first one all then (next + 1) (drop (i + 1) all) more
one_shown p q first one all now then next i d scenes more scene same within rest shows is_after items =
    let m = get_or all i d in
    let left = drop (i + 1) all in
    let here : IsRest p first one all now next (m ∷ left) scenes = subst (λ (ms : List Move). IsRest p first one all now next ms scenes) (drop_more all i d within) rest in
    let shown : step_of scene ≡ (next, act_at p now m) = shows ∙ ap (λ (t : GhostProtocol). (let x : NumberedStep = (next, act_at t now m) in x)) same in
    let left_is : then ≡ after p now m = is_after ∙ ap (λ (t : GhostProtocol). after t now m) same in
    subst (λ (xs : List Scene). IsRest p first one all then (next + 1) left xs) (sym items) (one_more p first one all now next m left scenes scene then here shown left_is)

-- a move more is done of some, and the state after all of them is the same
pub one_done : (p q : GhostProtocol) (now then last : GhostState) (all : List Move) (i : ℕ) (d : Move) → q ≡ p → i < length all
    → after_all p now (drop i all) ≡ last → then ≡ after q now (get_or all i d) → after_all p then (drop (i + 1) all) ≡ last
one_done p q now then last all i d same within rest is_after =
    let m = get_or all i d in
    let left = drop (i + 1) all in
    let here : then ≡ after p now m = is_after ∙ ap (λ (t : GhostProtocol). after t now m) same in
    ap (λ (s : GhostState). after_all p s left) here ∙ sym (ap (λ (ms : List Move). after_all p now ms) (drop_more all i d within)) ∙ rest

-- the moves of a run behind the first ones are those of the run from where these end, numbered on
moves_behind : (p : GhostProtocol) (s : GhostState) (earlier later : List Move) (n : ℕ) → drop (length earlier) (numbered p s n (earlier ++ later)) ≡ numbered p (after_all p s earlier) (n + length earlier) later
moves_behind p s [] later n = ap (λ (k : ℕ). numbered p s k later) (omega arith)
moves_behind p s (m ∷ earlier) later n =
    let s' = after p s m in
    let same : n + 1 + length earlier ≡ n + length (m ∷ earlier) = omega arith in
    moves_behind p s' earlier later (n + 1) ∙ ap (λ (k : ℕ). numbered p (after_all p s' earlier) k later) same

-- the moves that are drawn are those behind the first ones
pub drawn_are : (p q : GhostProtocol) (opening : Map) (moves earlier drawn : List Move) (s : GhostState) → q ≡ p → s ≡ opened opening → length earlier ≡ length moves - STEPS_DRAWN → moves ≡ earlier ++ drawn
    → numbered q (after_all q s earlier) (length earlier + 1) drawn ≡ drawn_moves p opening moves
drawn_are p q opening moves earlier drawn s same starts long split =
    let o = opened opening in
    let from : numbered q (after_all q s earlier) (length earlier + 1) drawn ≡ numbered p (after_all p o earlier) (length earlier + 1) drawn =
    ap₂ (λ (x : GhostProtocol) (y : GhostState). numbered x (after_all x y earlier) (length earlier + 1) drawn) same starts in
    let number : length earlier + 1 ≡ 1 + length earlier = omega arith in
    let whole : drop (length earlier) (numbered p o 1 (earlier ++ drawn)) ≡ drawn_moves p opening moves =
    ap (λ (k : ℕ). drop k (numbered p o 1 (earlier ++ drawn))) long ∙ ap (λ (ms : List Move). drop (length moves - STEPS_DRAWN) (numbered p o 1 ms)) (sym split) in
    from ∙ ap (λ (k : ℕ). numbered p (after_all p o earlier) k drawn) number ∙ sym (moves_behind p o earlier drawn 1) ∙ whole

-- the scenes of moves, where they are made, by what the moves are
pub same_moves : {E : Type 0} (r : Result Drawn E) (a b : List NumberedStep) → a ≡ b → IfOk r (λ drawn. map step_of drawn.scenes.items ≡ a) → IfOk r (λ drawn. map step_of drawn.scenes.items ≡ b)
same_moves (Ok drawn) a b same are = are ∙ same
same_moves (Err e) a b same are = tt
