-- The steps of a schedule, one after another.
use Rattle.std.proofs.Common.{◌≡◌, ◌++◌, [], ◌∷◌, ℕ, ◌+◌, ◌<◌, ◌≤◌, List, String, Vec, Global, map, take, length, get_or, refl, sym, ap, ◌∙◌, append_assoc, arith}
use Rattle.std.specs.List.{enumerate_from}
use Rattle.std.proofs.lemmas.List.{map_push, map_more, take_more, take_all}
use Rattle.std.proofs.lemmas.List.FromFn.{length-enumerate_from, get_or-enumerate_from}
use Rattle.kr_model.specs.declared.Event.{Event}
use Rattle.kr_model.specs.Map.{Map}
use Rattle.kr_model.specs.Protocol.{Protocol}
use Rattle.kr_model.specs.Run.{run}
use Rattle.kr_model.specs.State.{State, start}
use Rattle.kr_model.specs.Step.{step}
use Rattle.kr_explain_runs.specs.declared.counterexample.Counterexample.{Counterexample}
use Rattle.kr_explain_text.specs.Lines.{Adds}
use Rattle.kr_explain_text.specs.Steps.{IsSchedule, head_cells, mark_words, row_at, rows_of, schedule_rows, schedule_text, step_row, table_text, texts, txns_of}

-- the state before the step at a place
abbrev pub state_at : Protocol → State → List Event → ℕ → State
state_at p s events i = let r = run p s (take i events) in r.state

run_push : (p : Protocol) (s : State) (es : List Event) (e : Event) → (let r = run p s (es ++ e ∷ []) in r.state) ≡ (let r = run p s es in (step p r.state e.txn e.op).1)
run_push p s [] e = refl
run_push p s (x ∷ es) e = run_push p (step p s x.txn x.op).1 es e

-- the state before the next step
pub state_more : (p : Protocol) (s : State) (es : List Event) (i : ℕ) (d : Event) (now after : State) → i < length es → now ≡ state_at p s es i → after ≡ (step p now (get_or es i d).txn (get_or es i d).op).1 → after ≡ state_at p s es (i + 1)
state_more p s es i d now after l is is_after =
    let e = get_or es i d in
    let there : state_at p s es (i + 1) ≡ (step p (state_at p s es i) e.txn e.op).1 = ap (λ (xs : List Event). (run p s xs).state) (take_more es i d l) ∙ run_push p s (take i es) e in
    is_after ∙ (ap (λ (t : State). (step p t e.txn e.op).1) is ∙ sym there)

-- one row more
pub row_more : (p : Protocol) (names : List (List ℕ)) (txns : List ℕ) (s : State) (es : List Event) (weak let_in i : ℕ) (d : Event) (now : State) (mark : List ℕ) (line : Vec (String Global) Global) (lines new : List (Vec (String Global) Global))
    → i < length es → now ≡ state_at p s es i → mark ≡ mark_words weak let_in i → texts line.items ≡ step_row p names txns mark (i + 1) now (get_or es i d) → new ≡ lines ++ line ∷ []
    → rows_of lines ≡ head_cells txns ∷ map (row_at p names txns s es weak let_in) (take i (enumerate_from 0 es))
    → rows_of new ≡ head_cells txns ∷ map (row_at p names txns s es weak let_in) (take (i + 1) (enumerate_from 0 es))
row_more p names txns s es weak let_in i d now mark line lines new l is is_mark is_line is_new e =
    let f = row_at p names txns s es weak let_in in
    let here : List (List ℕ) = step_row p names txns (mark_words weak let_in i) (i + 1) (state_at p s es i) (get_or es i d) in
    let shows : texts line.items ≡ here = is_line ∙ (ap (λ (m : List ℕ). step_row p names txns m (i + 1) now (get_or es i d)) is_mark ∙ ap (λ (t : State). step_row p names txns (mark_words weak let_in i) (i + 1) t (get_or es i d)) is) in
    let within : i < length (enumerate_from 0 es) = omega (arith, length-enumerate_from 0 es, l) in
    let same : 0 + i ≡ i = omega arith in
    let nth : get_or (enumerate_from 0 es) i (0, d) ≡ (i, get_or es i d) = get_or-enumerate_from 0 es i (0, d) l ∙ ap (λ (n : ℕ). (n, get_or es i d)) same in
    let left : rows_of new ≡ rows_of lines ++ texts line.items ∷ [] = ap rows_of is_new ∙ map_push (λ (r : Vec (String Global) Global). texts r.items) lines line in
    let right : map f (take (i + 1) (enumerate_from 0 es)) ≡ map f (take i (enumerate_from 0 es)) ++ here ∷ [] = map_more f (enumerate_from 0 es) i (0, d) within ∙ ap (λ (x : ℕ × Event). map f (take i (enumerate_from 0 es)) ++ f x ∷ []) nth in
    left ∙ (ap (λ (xs : List (List (List ℕ))). xs ++ texts line.items ∷ []) e ∙ (ap (λ (x : List (List ℕ)). head_cells txns ∷ (map f (take i (enumerate_from 0 es)) ++ x ∷ [])) shows ∙ ap (λ (xs : List (List (List ℕ))). head_cells txns ∷ xs) (sym right)))

-- all rows
pub rows_all : (p : Protocol) (names : List (List ℕ)) (txns : List ℕ) (s : State) (es : List Event) (weak let_in i : ℕ) (rows : List (List (List ℕ))) → length es ≤ i → rows ≡ head_cells txns ∷ map (row_at p names txns s es weak let_in) (take i (enumerate_from 0 es)) → rows ≡ schedule_rows p names txns s es weak let_in
rows_all p names txns s es weak let_in i rows l e =
    let all : length (enumerate_from 0 es) ≤ i = omega (arith, length-enumerate_from 0 es, l) in
    e ∙ ap (λ (xs : List (ℕ × Event)). head_cells txns ∷ map (row_at p names txns s es weak let_in) xs) (take_all i (enumerate_from 0 es) all)

-- a schedule between two texts, behind what was there
pub between : (p : Protocol) (names : List (List ℕ)) (c : Counterexample) (old before first second behind new : List ℕ) → first ≡ old ++ before → second ≡ first ++ schedule_text p names c → new ≡ second ++ behind → Adds (IsSchedule p names c) old new
between p names c old before first second behind new is_first is_second is_new =
    let text : List ℕ = schedule_text p names c in (
      before ++ (text ++ behind),
      (
        record { before = before; behind = behind; written = refl },
        is_new ∙ (ap (λ (z : List ℕ). z ++ behind) (is_second ∙ ap (λ (z : List ℕ). z ++ text) is_first) ∙ (append_assoc (old ++ before) text behind ∙ append_assoc old before (text ++ behind))),
      ),
    )

-- the rows as a table are the table of the script's run
pub written : (p : Protocol) (names : List (List ℕ)) (c : Counterexample) (old new txns : List ℕ) (columns : ℕ) (rows : List (List (List ℕ))) → txns ≡ txns_of c.events.items → columns ≡ length txns + 4 → rows ≡ schedule_rows p names txns (start c.opening.items) c.events.items c.weak c.let_in → new ≡ old ++ table_text columns rows → new ≡ old ++ schedule_text p names c
unfolding schedule_text
written p names c old new txns columns rows txns_are columns_are rows_are is_new =
    is_new ∙ (ap (λ (n : ℕ). old ++ table_text n rows) columns_are ∙ (ap (λ (rs : List (List (List ℕ))). old ++ table_text (length txns + 4) rs) rows_are
    ∙ ap (λ (ts : List ℕ). old ++ table_text (length ts + 4) (schedule_rows p names ts (start c.opening.items) c.events.items c.weak c.let_in)) txns_are))

-- rows by a machine that has taken no step are those of the run from the opening map
pub from_start : (p q : Protocol) (names : List (List ℕ)) (txns : List ℕ) (s : State) (m : Map) (es fs : List Event) (weak let_in : ℕ) (rows : List (List (List ℕ))) → q ≡ p → s ≡ start m → es ≡ fs → rows ≡ schedule_rows q names txns s es weak let_in → rows ≡ schedule_rows p names txns (start m) fs weak let_in
from_start p q names txns s m es fs weak let_in rows same begun are e =
    e ∙ (ap (λ (r : Protocol). schedule_rows r names txns s es weak let_in) same ∙ (ap (λ (t : State). schedule_rows p names txns t es weak let_in) begun ∙ ap (λ (xs : List Event). schedule_rows p names txns (start m) xs weak let_in) are))
