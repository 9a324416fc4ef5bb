-- What a delete requests, by rules that have no faults: the same at each own mode, and nothing on the next name.
use Rattle.std.proofs.Common.{◌≡◌, ℕ, List, ◌∷◌, ◌++◌, [], Bool, true, false, ◌&&◌, true≢false, if◌then◌else◌, Option, Some, None, is_some, refl, sym, ◌∙◌, codes}
use Rattle.std.specs.Prelude.{IfSome, All, unwrap_or, option_and_then, slice_index_or}
use Rattle.std.proofs.lemmas.Bool.{and_parts}
use Rattle.std.proofs.lemmas.List.Elements.{All-map}
use Rattle.toml.specs.Data.{Data, table, Items, no_items, item, Members, no_members, member, get, as_array, as_table}
use Rattle.kr_model.specs.Firsts.{unless}
use Rattle.kr_table.specs.declared.rows.Rows.TheVariants.{Ghosts}
use Rattle.kr_table.specs.Faults.{rule, own_not_allowed}
use Rattle.kr_table.specs.Members.{members_of, items_within, data_in}
use Rattle.kr_table.specs.DocumentFaults.{is_clause, is_row, is_side, is_own, sees_own, row_faults, side_faults, clauses_faults, clause_faults, own_faults, clause_path}
use Rattle.kr_table.specs.Tables.{Request}
use Rattle.kr_table.specs.Reading.{asked, asked_each, clauses_of, fits, fits_own, request}
use Rattle.kr_table.proofs.Sound.{both_empty, held_by}
use Rattle.kr_ghost_table.proofs.EveryMember.{EachMember, found_in}

-- the row has the side, and no clause of it has a fault
abbrev IsGoodSide : List (List ℕ) → List ℕ → List ℕ → Data → Type 0
IsGoodSide modes row side d = (is_side Ghosts row side ≡ true) × (clauses_faults Ghosts modes row side 0 (items_within d) ≡ [])

each_side : (modes : List (List ℕ)) (row : List ℕ) (ms : Members) → side_faults Ghosts modes row ms ≡ [] → EachMember (IsGoodSide modes row) ms
each_side modes row no_members e = tt
each_side modes row (member side d ms) e =
    let fault = rule (codes "rules." ++ row ++ codes "." ++ side) in
    let p = both_empty (unless (is_side Ghosts row side && is_some (as_array d)) fault) (clauses_faults Ghosts modes row side 0 (items_within d) ++ side_faults Ghosts modes row ms) e in
    let q = both_empty (clauses_faults Ghosts modes row side 0 (items_within d)) (side_faults Ghosts modes row ms) p.1 in
    (((and_parts (is_side Ghosts row side) (is_some (as_array d)) (held_by (is_side Ghosts row side && is_some (as_array d)) fault p.0)).0, q.0), each_side modes row ms q.1)

-- there is such a row, and it has no faults in its sides
abbrev pub IsGoodRow : List (List ℕ) → List ℕ → Data → Type 0
IsGoodRow modes row d = ((is_row Ghosts row && is_some (as_table d)) ≡ true) × (side_faults Ghosts modes row (members_of d) ≡ [])

pub each_row : (modes : List (List ℕ)) (ms : Members) → row_faults Ghosts modes ms ≡ [] → EachMember (IsGoodRow modes) ms
each_row modes no_members e = tt
each_row modes (member row d ms) e =
    let fault = rule (codes "rules." ++ row) in
    let p = both_empty (unless (is_row Ghosts row && is_some (as_table d)) fault) (side_faults Ghosts modes row (members_of d) ++ row_faults Ghosts modes ms) e in
    let q = both_empty (side_faults Ghosts modes row (members_of d)) (row_faults Ghosts modes ms) p.1 in
    ((held_by (is_row Ghosts row && is_some (as_table d)) fault p.0, q.0), each_row modes ms q.1)

side_of : (modes : List (List ℕ)) (row side : List ℕ) (o : Option Data) → IfSome o (IsGoodRow modes row) → IfSome (get side (unwrap_or o (table no_members))) (IsGoodSide modes row side)
side_of modes row side None good = tt
side_of modes row side (Some d) good = found_in (IsGoodSide modes row) side d (each_side modes row (members_of d) good.1)

-- the side of a row, if it is there
side_found : (modes : List (List ℕ)) (row side : List ℕ) (rules : Data) → row_faults Ghosts modes (members_of rules) ≡ [] → IfSome (get side (data_in row rules)) (IsGoodSide modes row side)
side_found modes row side rules e = side_of modes row side (get row rules) (found_in (IsGoodRow modes) row rules (each_row modes (members_of rules) e))

-- what is requested at each own mode --

-- a clause has no `own` where the row sees no own mode
no_own : (modes : List (List ℕ)) (row side own : List ℕ) (o : Option Data) → sees_own Ghosts row ≡ false → own_faults Ghosts modes row side 0 o ≡ [] → fits_own own o ≡ true
no_own modes row side own None sees e = refl
no_own modes row side own (Some d) sees e =
    let p = both_empty (unless (sees_own Ghosts row) (own_not_allowed (clause_path row side 0))) (unless (is_own modes (as_array d)) (rule (clause_path row side 0))) e in
    absurd (true≢false (sym (held_by (sees_own Ghosts row) (own_not_allowed (clause_path row side 0)) p.0) ∙ sees))

first_asked : (b : Bool) (x y : Request) → b ≡ true → (if b then x else y) ≡ x
first_asked true x y h = refl
first_asked false x y h = cc

-- so the first clause is for each own mode
asked_alike : (modes : List (List ℕ)) (row side own : List ℕ) (ds : Items) → sees_own Ghosts row ≡ false → clauses_faults Ghosts modes row side 0 ds ≡ [] → asked modes ds own ≡ asked modes ds (codes "none")
asked_alike modes row side own no_items sees e = refl
asked_alike modes row side own (item d ds) sees e =
    let p = both_empty (clause_faults Ghosts modes row side 0 d) (clauses_faults Ghosts modes row side 1 ds) e in
    let q = both_empty (unless (is_clause modes d) (rule (clause_path row side 0))) (own_faults Ghosts modes row side 0 (get (codes "own") d)) p.0 in
    let at = λ (o : List ℕ). first_asked (fits o d) (request modes d) (asked modes ds o) (no_own modes row side o (get (codes "own") d) sees q.1) in
    at own ∙ sym (at (codes "none"))

alike_at : (modes : List (List ℕ)) (row side own : List ℕ) (o : Option Data) → sees_own Ghosts row ≡ false → IfSome o (IsGoodSide modes row side)
    → asked modes (unwrap_or (option_and_then as_array o) no_items) own ≡ asked modes (unwrap_or (option_and_then as_array o) no_items) (codes "none")
alike_at modes row side own None sees good = refl
alike_at modes row side own (Some d) sees good = asked_alike modes row side own (items_within d) sees good.1

-- a side that the row hasn't asks nothing
nothing_at : (modes : List (List ℕ)) (row side own : List ℕ) (o : Option Data) → is_side Ghosts row side ≡ false → IfSome o (IsGoodSide modes row side)
    → asked modes (unwrap_or (option_and_then as_array o) no_items) own ≡ None
nothing_at modes row side own None none good = refl
nothing_at modes row side own (Some d) none good = absurd (true≢false (sym good.0 ∙ none))

-- a delete on its key
pub delete_alike : (modes : List (List ℕ)) (rules : Data) → row_faults Ghosts modes (members_of rules) ≡ []
    → All (λ r. r ≡ asked modes (clauses_of rules (codes "delete") (codes "current")) (codes "none")) (asked_each modes (clauses_of rules (codes "delete") (codes "current")))
delete_alike modes rules e =
    let ds = clauses_of rules (codes "delete") (codes "current") in
    let owns = codes "none" ∷ modes in
    let side = side_found modes (codes "delete") (codes "current") rules e in
    All-map (λ r. r ≡ asked modes ds (codes "none")) (asked modes ds) owns
    (λ k own low. alike_at modes (codes "delete") (codes "current") (slice_index_or owns k own) (get (codes "current") (data_in (codes "delete") rules)) refl side)

-- and on the next name
pub delete_nothing : (modes : List (List ℕ)) (rules : Data) → row_faults Ghosts modes (members_of rules) ≡ [] → All (λ r. r ≡ None) (asked_each modes (clauses_of rules (codes "delete") (codes "next")))
delete_nothing modes rules e =
    let ds = clauses_of rules (codes "delete") (codes "next") in
    let owns = codes "none" ∷ modes in
    let side = side_found modes (codes "delete") (codes "next") rules e in
    All-map (λ r. r ≡ None) (asked modes ds) owns
    (λ k own low. nothing_at modes (codes "delete") (codes "next") (slice_index_or owns k own) (get (codes "next") (data_in (codes "delete") rules)) refl side)
