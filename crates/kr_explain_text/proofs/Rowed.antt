-- Locks, cells and rows, one behind another.
use Rattle.std.proofs.Common.{◌≡◌, ◌++◌, [], ◌∷◌, ℕ, ◌+◌, ◌-◌, ◌<◌, ◌≤◌, max, List, Bool, Option, Some, ◌==◌, String, Vec, Global, map, take, drop, length, get_or, refl, sym, ap, ◌∙◌, append_assoc, arith, string_bytes}
use Rattle.std.specs.List.{fold, flat_map, insert}
use Rattle.std.specs.Prelude.{slice_index_or}
use Rattle.std.proofs.lemmas.List.{append-nil, at_drop_more, at_drop_all, length-drop, length-map, get_or-map, get_or_past, map_more}
use Rattle.std.proofs.lemmas.Bool.Decides.{nat_tests}
use Rattle.kr_model.specs.declared.Name.{Name}
use Rattle.kr_model.specs.Locks.{Lock, Locks, name_locked, add_once}
use Rattle.kr_model.proofs.Numbers.{add_once_insert, add_once_there, add_once_end}
use Rattle.kr_explain_text.specs.Spoken.{holder_words, lead_words, locks_behind, locks_words}
use Rattle.kr_explain_text.specs.Steps.{texts, rows_of, is_end, cell_words, cells_from, width_at}

-- one lock more is written
pub lock_more : (names : List (List ℕ)) (ls : Locks) (i : ℕ) (d : Lock) (before : Option Name) (out lead new all : List ℕ) → i < length ls → lead ≡ out ++ lead_words before (name_locked (get_or ls i d)) → new ≡ lead ++ holder_words names (get_or ls i d) → out ++ locks_behind names before (drop i ls) ≡ all → new ++ locks_behind names (Some (name_locked (get_or ls i d))) (drop (i + 1) ls) ≡ all
lock_more names ls i d before out lead new all l is_lead is_new e =
    let x = get_or ls i d in
    let a : List ℕ = lead_words before (name_locked x) in
    let b : List ℕ = holder_words names x in
    let rest : List ℕ = locks_behind names (Some (name_locked x)) (drop (i + 1) ls) in
    let opened : locks_behind names before (drop i ls) ≡ a ++ (b ++ rest) = at_drop_more (locks_behind names before) ls i d l in
    let here : new ++ rest ≡ ((out ++ a) ++ b) ++ rest = ap (λ (z : List ℕ). z ++ rest) (is_new ∙ ap (λ (z : List ℕ). z ++ b) is_lead) in
    here ∙ (append_assoc (out ++ a) b rest ∙ (append_assoc out a (b ++ rest) ∙ (ap (λ (z : List ℕ). out ++ z) (sym opened) ∙ e)))

-- when all are written
pub locks_all : (names : List (List ℕ)) (ls : Locks) (i : ℕ) (before : Option Name) (out : List ℕ) → length ls ≤ i → out ++ locks_behind names before (drop i ls) ≡ locks_words names ls → out ≡ locks_words names ls
locks_all names ls i before out l e = sym (append-nil out) ∙ (ap (λ (z : List ℕ). out ++ z) (sym (at_drop_all (locks_behind names before) ls i l)) ∙ e)

-- the length of a cell that is there, and of one that isn't
pub length_in : (cells : List (String Global)) (k : ℕ) (s : String Global) → k < length cells → s ≡ get_or cells k s → length (string_bytes s) ≡ length (slice_index_or (texts cells) k [])
length_in cells k s l is = ap (λ (x : String Global). length (string_bytes x)) is ∙ ap length (sym (get_or-map (λ (c : String Global). string_bytes c) cells k s [] l))

pub length_past : (cells : List (String Global)) (k : ℕ) → length cells ≤ k → 0 ≡ length (slice_index_or (texts cells) k [])
length_past cells k l = sym (ap length (get_or_past (texts cells) k [] (omega (arith, length-map cells (λ (c : String Global). string_bytes c)))))

-- the greatest length of the cells of a column, and w
abbrev pub widest_of : ℕ → ℕ → List (List (List ℕ)) → ℕ
widest_of k w rows = fold (λ v row. max v (length (slice_index_or row k []))) w rows

-- one row more
pub width_more : (rows : List (Vec (String Global) Global)) (k i : ℕ) (row : Vec (String Global) Global) (w new all : ℕ) → i < length rows → row ≡ get_or rows i row → new ≡ max w (length (slice_index_or (texts row.items) k [])) → widest_of k w (rows_of (drop i rows)) ≡ all → widest_of k new (rows_of (drop (i + 1) rows)) ≡ all
width_more rows k i row w new all l is is_new e =
    let rest = rows_of (drop (i + 1) rows) in
    let opened : widest_of k w (rows_of (drop i rows)) ≡ widest_of k (max w (length (slice_index_or (texts (get_or rows i row).items) k []))) rest = at_drop_more (λ (rs : List (Vec (String Global) Global)). widest_of k w (rows_of rs)) rows i row l in
    ap (λ (n : ℕ). widest_of k n rest) is_new ∙ (ap (λ (r : Vec (String Global) Global). widest_of k (max w (length (slice_index_or (texts r.items) k []))) rest) is ∙ (sym opened ∙ e))

-- all rows
pub width_all : (rows : List (Vec (String Global) Global)) (k i w : ℕ) → length rows ≤ i → widest_of k w (rows_of (drop i rows)) ≡ width_at (rows_of rows) k → w ≡ width_at (rows_of rows) k
width_all rows k i w l e = sym (at_drop_all (λ (rs : List (Vec (String Global) Global)). widest_of k w (rows_of rs)) rows i l) ∙ e

end_by_length : (cs : List (List ℕ)) → is_end cs ≡ (length cs == 0)
end_by_length [] = refl
end_by_length (c ∷ cs) = grind (arith, nat_tests)

both_ends : (n i : ℕ) → i < n → (n - (i + 1) == 0) ≡ (i + 1 == n)
both_ends n i l = grind (arith, nat_tests)

-- one cell more is written
pub cell_more : (widths : List ℕ) (cells : List (String Global)) (i w : ℕ) (s : String Global) (is_last : Bool) (out new all : List ℕ) → i < length cells → s ≡ get_or cells i s → w ≡ slice_index_or widths i 0 → is_last ≡ (i + 1 == length cells) → new ≡ out ++ cell_words (i == 0) is_last w (string_bytes s) → out ++ cells_from widths i (texts (drop i cells)) ≡ all → new ++ cells_from widths (i + 1) (texts (drop (i + 1) cells)) ≡ all
cell_more widths cells i w s is_last out new all l is is_w is_end_here is_new e =
    let rest = texts (drop (i + 1) cells) in
    let v = slice_index_or widths i 0 in
    let left : List ℕ = cells_from widths (i + 1) rest in
    let opened : cells_from widths i (texts (drop i cells)) ≡ cell_words (i == 0) (is_end rest) v (string_bytes (get_or cells i s)) ++ left = at_drop_more (λ (cs : List (String Global)). cells_from widths i (texts cs)) cells i s l in
    let ends : is_end rest ≡ is_last = end_by_length rest ∙ (ap (λ (n : ℕ). n == 0) (length-map (drop (i + 1) cells) (λ (c : String Global). string_bytes c) ∙ length-drop (i + 1) cells) ∙ (both_ends (length cells) i l ∙ sym is_end_here)) in
    let same : cell_words (i == 0) (is_end rest) v (string_bytes (get_or cells i s)) ≡ cell_words (i == 0) is_last w (string_bytes s) = ap (λ (b : Bool). cell_words (i == 0) b v (string_bytes (get_or cells i s))) ends ∙ (ap (λ (n : ℕ). cell_words (i == 0) is_last n (string_bytes (get_or cells i s))) (sym is_w) ∙ ap (λ (x : String Global). cell_words (i == 0) is_last w (string_bytes x)) (sym is)) in
    let whole : cells_from widths i (texts (drop i cells)) ≡ cell_words (i == 0) is_last w (string_bytes s) ++ left = opened ∙ ap (λ (z : List ℕ). z ++ left) same in
    ap (λ (z : List ℕ). z ++ left) is_new ∙ (append_assoc out (cell_words (i == 0) is_last w (string_bytes s)) left ∙ (ap (λ (z : List ℕ). out ++ z) (sym whole) ∙ e))

-- when all are written
pub cells_all : (widths : List ℕ) (cells : List (String Global)) (i : ℕ) (out all : List ℕ) → length cells ≤ i → out ++ cells_from widths i (texts (drop i cells)) ≡ all → out ≡ all
cells_all widths cells i out all l e = sym (append-nil out) ∙ (ap (λ (z : List ℕ). out ++ z) (sym (at_drop_all (λ (cs : List (String Global)). cells_from widths i (texts cs)) cells i l)) ∙ e)

-- one cell more is there
pub put_more : {X : Type 0} (f : X → List ℕ) (xs : List X) (i : ℕ) (d : X) (first old new : List (List ℕ)) (x : List ℕ) → i < length xs → x ≡ f (get_or xs i d) → new ≡ old ++ x ∷ [] → old ≡ first ++ map f (take i xs) → new ≡ first ++ map f (take (i + 1) xs)
put_more f xs i d first old new x l is is_new e =
    is_new ∙ (ap (λ (z : List (List ℕ)). z ++ x ∷ []) e ∙ (append_assoc first (map f (take i xs)) (x ∷ []) ∙ (ap (λ (y : List ℕ). first ++ (map f (take i xs) ++ y ∷ [])) is ∙ ap (λ (z : List (List ℕ)). first ++ z) (sym (map_more f xs i d l)))))

-- a number is put among others where the ones before it are below it, unless it is there
pub once_there : (t : ℕ) (xs ys : List ℕ) (i : ℕ) → ys ≡ xs → i < length ys → ((k : ℕ) → k < i → get_or ys k 0 < t) → t ≡ get_or ys i 0 → ys ≡ add_once t xs
once_there t xs ys i same l below is = sym (add_once_there t ys i l below is) ∙ ap (add_once t) same

pub once_put : (t : ℕ) (xs ys new : List ℕ) (i : ℕ) → ys ≡ xs → i < length ys → ((k : ℕ) → k < i → get_or ys k 0 < t) → t < get_or ys i 0 → new ≡ insert ys i t → new ≡ add_once t xs
once_put t xs ys new i same l below above is_new = is_new ∙ (sym (add_once_insert t ys i l below above) ∙ ap (add_once t) same)

pub once_end : (t : ℕ) (xs ys new : List ℕ) (i : ℕ) → ys ≡ xs → length ys ≤ i → ((k : ℕ) → k < i → get_or ys k 0 < t) → new ≡ ys ++ t ∷ [] → new ≡ add_once t xs
once_end t xs ys new i same l below is_new = is_new ∙ (sym (add_once_end t ys (λ k lt. below k (omega (arith, l, lt)))) ∙ ap (add_once t) same)

-- the cells above the steps, one behind another
pub heads : (none one two three four ops : List (List ℕ)) (e x y f u v : List ℕ) → none ≡ [] → one ≡ none ++ e ∷ [] → two ≡ one ++ ops → three ≡ two ++ x ∷ [] → four ≡ three ++ y ∷ [] → e ≡ f → x ≡ u → y ≡ v → four ≡ f ∷ (ops ++ (u ∷ v ∷ []))
heads none one two three four ops e x y f u v is_none is_one is_two is_three is_four is_e is_x is_y =
    let first : one ≡ f ∷ [] = is_one ∙ (ap (λ (z : List (List ℕ)). z ++ e ∷ []) is_none ∙ ap (λ (z : List ℕ). z ∷ []) is_e) in
    let second : two ≡ f ∷ ops = is_two ∙ ap (λ (z : List (List ℕ)). z ++ ops) first in
    let third : three ≡ f ∷ (ops ++ u ∷ []) = is_three ∙ (ap (λ (z : List (List ℕ)). z ++ x ∷ []) second ∙ ap (λ (w : List ℕ). f ∷ (ops ++ w ∷ [])) is_x) in
    is_four ∙ (ap (λ (z : List (List ℕ)). z ++ y ∷ []) third ∙ (ap (λ (z : List (List ℕ)). f ∷ z) (append_assoc ops (u ∷ []) (y ∷ [])) ∙ ap (λ (w : List ℕ). f ∷ (ops ++ (u ∷ w ∷ []))) is_y))

-- one row more is written
pub row_written : (F : List (List ℕ) → List ℕ) (rows : List (Vec (String Global) Global)) (i : ℕ) (row : Vec (String Global) Global) (out new all : List ℕ) → i < length rows → row ≡ get_or rows i row → new ≡ out ++ F (texts row.items) → out ++ flat_map F (rows_of (drop i rows)) ≡ all → new ++ flat_map F (rows_of (drop (i + 1) rows)) ≡ all
row_written F rows i row out new all l is is_new e =
    let rest : List ℕ = flat_map F (rows_of (drop (i + 1) rows)) in
    let opened : flat_map F (rows_of (drop i rows)) ≡ F (texts (get_or rows i row).items) ++ rest = at_drop_more (λ (rs : List (Vec (String Global) Global)). flat_map F (rows_of rs)) rows i row l in
    let whole : flat_map F (rows_of (drop i rows)) ≡ F (texts row.items) ++ rest = opened ∙ ap (λ (r : Vec (String Global) Global). F (texts r.items) ++ rest) (sym is) in
    ap (λ (z : List ℕ). z ++ rest) is_new ∙ (append_assoc out (F (texts row.items)) rest ∙ (ap (λ (z : List ℕ). out ++ z) (sym whole) ∙ e))

-- when all are written
pub rows_written : (F : List (List ℕ) → List ℕ) (rows : List (Vec (String Global) Global)) (i : ℕ) (out all : List ℕ) → length rows ≤ i → out ++ flat_map F (rows_of (drop i rows)) ≡ all → out ≡ all
rows_written F rows i out all l e = sym (append-nil out) ∙ (ap (λ (z : List ℕ). out ++ z) (sym (at_drop_all (λ (rs : List (Vec (String Global) Global)). flat_map F (rows_of rs)) rows i l)) ∙ e)
