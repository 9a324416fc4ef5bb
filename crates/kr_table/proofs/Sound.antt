-- A document without faults gives a table.
use Rattle.std.proofs.Common.{◌≡◌, ℕ, ◌+◌, ◌*◌, ◌<◌, ◌≤◌, ◌&&◌, ◌||◌, List, [], ◌∷◌, ◌++◌, length, map, Bool, true, false, Option, Some, None, is_some, Ordering, Less, Equal, Greater, nat_cmp, refl, arith, ◌∙◌, sym, ap, String, Global, string_bytes, length-append, nat_lt, nat_le, codes, suc, if◌then◌else◌}
use Rattle.std.proofs.lemmas.List.{length-map}
use Rattle.std.specs.Prelude.{bytes_eq, option_and_then, unwrap_or}
use Rattle.std.specs.List.{list_all}
use Rattle.std.specs.Ordering.{match_ordering}
use Rattle.std.specs.Cmp.Lexicographic.{slice_cmp}
use Rattle.std.proofs.lemmas.Bool.{and_parts}
use Rattle.std.proofs.lemmas.Bool.Decides.{nat_tests}
use Rattle.toml.specs.Data.{Data, string, integer, float, boolean, datetime, array, table, Items, no_items, item, Members, no_members, member, get, get_member, as_str, as_array, as_table}
use Rattle.kr_model.specs.Firsts.{unless}
use Rattle.kr_table.specs.declared.rows.Rows.{Rows}
use Rattle.kr_table.specs.Faults.{Fault, mode_count, mode_name, convert, rule}
use Rattle.kr_table.specs.DocumentFaults.{count_faults, mode_faults, is_good_text, is_mode, is_mode_text, is_clause, are_clause_words, is_span, is_row, is_side, pair_faults, held_faults, missing_of, missing_pairs, row_faults, side_faults, clauses_faults, clause_faults, own_faults, clause_path, content_faults, entry_faults, missing_faults}
use Rattle.kr_table.specs.Members.{items_len, names_of, with_some, pair_in, members_of, items_within, items_in, text_in}
use Rattle.kr_table.specs.Tables.{Request, are_good, in_range, asks_mode, IsAsked, IsTable}
use Rattle.kr_table.specs.Reading.{number, number_from, square, stands, converts, text_of, clauses_of, fits, request, asked, asked_each, asked_update, table_of_parts}

-- lists of faults --

pub both_empty : (fs gs : List Fault) → fs ++ gs ≡ [] → (fs ≡ []) × (gs ≡ [])
both_empty [] gs h = (refl, h)
both_empty (f ∷ fs) gs h = cc

pub held_by : (b : Bool) (f : Fault) → unless b f ≡ [] → b ≡ true
held_by true f h = refl
held_by false f h = cc

-- names --

good_step : (i : ℕ) (before : List (List ℕ)) (o : Option (List ℕ)) (ds : Items) → unless (is_good_text before o) (mode_name i) ≡ []
    → are_good (before ++ with_some o) (names_of ds) ≡ true → are_good before (with_some o ++ names_of ds) ≡ true
good_step i before None ds h k = cc
good_step i before (Some n) ds h k = rw (held_by (is_good_text before (Some n)) (mode_name i) h, k)

pub good_names : (i : ℕ) (before : List (List ℕ)) (ds : Items) → mode_faults i before ds ≡ [] → are_good before (names_of ds) ≡ true
good_names i before no_items h = refl
good_names i before (item d ds) h =
    let p = both_empty (unless (is_good_text before (as_str d)) (mode_name i)) (mode_faults (i + 1) (before ++ with_some (as_str d)) ds) h in
    good_step i before (as_str d) ds p.0 (good_names (i + 1) (before ++ with_some (as_str d)) ds p.1)

len_step : (i : ℕ) (before : List (List ℕ)) (o : Option (List ℕ)) (ds : Items) → unless (is_good_text before o) (mode_name i) ≡ []
    → length (names_of ds) ≡ items_len ds → length (with_some o ++ names_of ds) ≡ items_len ds + 1
len_step i before None ds h k = cc
len_step i before (Some n) ds h k = omega arith

pub all_named : (i : ℕ) (before : List (List ℕ)) (ds : Items) → mode_faults i before ds ≡ [] → length (names_of ds) ≡ items_len ds
all_named i before no_items h = refl
all_named i before (item d ds) h =
    let p = both_empty (unless (is_good_text before (as_str d)) (mode_name i)) (mode_faults (i + 1) (before ++ with_some (as_str d)) ds) h in
    len_step i before (as_str d) ds p.0 (all_named (i + 1) (before ++ with_some (as_str d)) ds p.1)

-- numbers of names --

number_first : (b : Bool) (i : ℕ) (ms : List (List ℕ)) (n : List ℕ) → (is_mode ms n ≡ true → (i + 1 ≤ number_from (i + 1) ms n) × (number_from (i + 1) ms n < i + 1 + length ms))
    → (b || is_mode ms n) ≡ true → (i ≤ (if b then i else number_from (i + 1) ms n)) × ((if b then i else number_from (i + 1) ms n) < i + suc (length ms))
number_first true i ms n more h = (omega arith, omega arith)
number_first false i ms n more h = let p = more h in (omega (arith, p.0), omega (arith, p.1))

number_within : (i : ℕ) (modes : List (List ℕ)) (n : List ℕ) → is_mode modes n ≡ true → (i ≤ number_from i modes n) × (number_from i modes n < i + length modes)
number_within i [] n h = cc
number_within i (m ∷ ms) n h = number_first (bytes_eq m n) i ms n (number_within (i + 1) ms n) h

pub number_in_range : (modes : List (List ℕ)) (n : List ℕ) → is_mode modes n ≡ true → in_range (length modes) (number modes n) ≡ true
number_in_range modes n h =
    let p = number_within 1 modes n h in
    let a : nat_lt 0 (number modes n) ≡ true = grind (arith, nat_tests, p.0) in
    let b : nat_le (number modes n) (length modes) ≡ true = grind (arith, nat_tests, p.1) in
    rw (a, b)

-- squares --

next_line : (a b : ℕ) → suc a * b ≡ b + a * b
next_line a b = grind arith

pub square_length : {A : Type 0} (f : List ℕ → List ℕ → A) (lines columns : List (List ℕ)) → length (square f lines columns) ≡ length lines * length columns
square_length f [] columns = grind arith
square_length f (l ∷ ls) columns =
    let more = square_length f ls columns in
    let here = next_line (length ls) (length columns) in
    length-append (map (f l) columns) (square f ls columns) ∙ rw (length-map columns (f l), more, ← here)

-- conversions --

abbrev ok_pair : List (List ℕ) → Option Data → Bool
ok_pair modes None = true
ok_pair modes (Some d) = is_mode_text modes (as_str d)

-- what holds of what is found in a member, or in those after it
found_at : (P : Option Data → Bool) (o : Ordering) (here : Data) (rest : Option Data) → P (Some here) ≡ true → P rest ≡ true → P (match_ordering o rest (Some here) rest) ≡ true
found_at P Less here rest a b = b
found_at P Equal here rest a b = a
found_at P Greater here rest a b = b

pair_get : (modes : List (List ℕ)) (h q : List ℕ) (ms : Members) → pair_faults modes h ms ≡ [] → ok_pair modes (get_member q ms) ≡ true
pair_get modes h q no_members e = refl
pair_get modes h q (member l d ms) e =
    let p = both_empty (unless (is_mode modes l && is_mode_text modes (as_str d)) (convert (codes "convert." ++ h ++ codes "." ++ l))) (pair_faults modes h ms) e in
    let t = held_by (is_mode modes l && is_mode_text modes (as_str d)) (convert (codes "convert." ++ h ++ codes "." ++ l)) p.0 in
    found_at (ok_pair modes) (slice_cmp nat_cmp q l) d (get_member q ms) (and_parts (is_mode modes l) (is_mode_text modes (as_str d)) t).1 (pair_get modes h q ms p.1)

pair_data : (modes : List (List ℕ)) (h q : List ℕ) (d : Data) → pair_faults modes h (members_of d) ≡ [] → ok_pair modes (get q d) ≡ true
pair_data modes h q (table ms) e = pair_get modes h q ms e
pair_data modes h q (string s) e = refl
pair_data modes h q (integer z) e = refl
pair_data modes h q (float x) e = refl
pair_data modes h q (boolean b) e = refl
pair_data modes h q (datetime t) e = refl
pair_data modes h q (array ds) e = refl

held_get : (modes : List (List ℕ)) (h q : List ℕ) (ms : Members) → held_faults modes ms ≡ [] → ok_pair modes (option_and_then (get q) (get_member h ms)) ≡ true
held_get modes h q no_members e = refl
held_get modes h q (member l d ms) e =
    let p = both_empty (unless (is_mode modes l && is_some (as_table d)) (convert (codes "convert." ++ l))) (pair_faults modes l (members_of d) ++ held_faults modes ms) e in
    let r = both_empty (pair_faults modes l (members_of d)) (held_faults modes ms) p.1 in
    found_at (λ o. ok_pair modes (option_and_then (get q) o)) (slice_cmp nat_cmp h l) d (get_member h ms) (pair_data modes l q d r.0) (held_get modes h q ms r.1)

held_data : (modes : List (List ℕ)) (h q : List ℕ) (d : Data) → held_faults modes (members_of d) ≡ [] → ok_pair modes (pair_in d h q) ≡ true
held_data modes h q (table ms) e = held_get modes h q ms e
held_data modes h q (string s) e = refl
held_data modes h q (integer z) e = refl
held_data modes h q (float x) e = refl
held_data modes h q (boolean b) e = refl
held_data modes h q (datetime t) e = refl
held_data modes h q (array ds) e = refl

text_numbered : (modes : List (List ℕ)) (o : Option (List ℕ)) → is_mode_text modes o ≡ true → in_range (length modes) (number modes (unwrap_or o [])) ≡ true
text_numbered modes None h = cc
text_numbered modes (Some n) h = number_in_range modes n h

one_converted : (modes : List (List ℕ)) (o : Option Data) → is_some o ≡ true → ok_pair modes o ≡ true → in_range (length modes) (number modes (text_of o)) ≡ true
one_converted modes None h k = cc
one_converted modes (Some d) h k = text_numbered modes (as_str d) k

line_converted : (modes : List (List ℕ)) (d : Data) (h : List ℕ) (qs : List (List ℕ)) → held_faults modes (members_of d) ≡ [] → missing_of h qs d ≡ []
    → list_all (in_range (length modes)) (map (converts modes d h) qs) ≡ true
line_converted modes d h [] e k = refl
line_converted modes d h (q ∷ qs) e k =
    let p = both_empty (unless (is_some (pair_in d h q)) (convert (codes "convert." ++ h ++ codes "." ++ q))) (missing_of h qs d) k in
    let here = one_converted modes (pair_in d h q) (held_by (is_some (pair_in d h q)) (convert (codes "convert." ++ h ++ codes "." ++ q)) p.0) (held_data modes h q d e) in
    rw (here, line_converted modes d h qs e p.1)

all_appended : {A : Type 0} (p : A → Bool) (xs ys : List A) → list_all p xs ≡ true → list_all p ys ≡ true → list_all p (xs ++ ys) ≡ true
all_appended p [] ys h k = k
all_appended p (x ∷ xs) ys h k =
    let a = and_parts (p x) (list_all p xs) h in
    rw (a.0, all_appended p xs ys a.1 k)

all_converted : (modes : List (List ℕ)) (d : Data) (hs qs : List (List ℕ)) → held_faults modes (members_of d) ≡ [] → missing_pairs hs qs d ≡ []
    → list_all (in_range (length modes)) (square (converts modes d) hs qs) ≡ true
all_converted modes d [] qs e k = refl
all_converted modes d (h ∷ hs) qs e k =
    let p = both_empty (missing_of h qs d) (missing_pairs hs qs d) k in
    all_appended (in_range (length modes)) (map (converts modes d h) qs) (square (converts modes d) hs qs) (line_converted modes d h qs e p.0) (all_converted modes d hs qs e p.1)

-- requests --

abbrev good_clauses : List (List ℕ) → Items → Bool
good_clauses modes no_items = true
good_clauses modes (item d ds) = is_mode_text modes (text_in (codes "mode") d) && good_clauses modes ds

abbrev good_list : List (List ℕ) → Option Data → Bool
good_list modes None = true
good_list modes (Some d) = good_clauses modes (items_within d)

abbrev good_sides : List (List ℕ) → List ℕ → Option Data → Bool
good_sides modes side None = true
good_sides modes side (Some d) = good_list modes (get side d)

mode_of_clause : (a b c d : Bool) → (a && b && c && d) ≡ true → c ≡ true
mode_of_clause true true true d h = refl
mode_of_clause true true false d h = h
mode_of_clause true false c d h = cc
mode_of_clause false b c d h = cc

clauses_good : (r : Rows) (modes : List (List ℕ)) (row side : List ℕ) (i : ℕ) (ds : Items) → clauses_faults r modes row side i ds ≡ [] → good_clauses modes ds ≡ true
clauses_good r modes row side i no_items e = refl
clauses_good r modes row side i (item d ds) e =
    let p = both_empty (clause_faults r modes row side i d) (clauses_faults r modes row side (i + 1) ds) e in
    let q = both_empty (unless (is_clause modes d) (rule (clause_path row side i))) (own_faults r modes row side i (get (codes "own") d)) p.0 in
    let t = held_by (is_clause modes d) (rule (clause_path row side i)) q.0 in
    let m = mode_of_clause (is_some (as_table d)) (are_clause_words (members_of d)) (is_mode_text modes (text_in (codes "mode") d)) (is_span (text_in (codes "span") d)) t in
    rw (m, clauses_good r modes row side (i + 1) ds p.1)

side_get : (r : Rows) (modes : List (List ℕ)) (row side : List ℕ) (ms : Members) → side_faults r modes row ms ≡ [] → good_list modes (get_member side ms) ≡ true
side_get r modes row side no_members e = refl
side_get r modes row side (member l d ms) e =
    let p = both_empty (unless (is_side r row l && is_some (as_array d)) (rule (codes "rules." ++ row ++ codes "." ++ l))) (clauses_faults r modes row l 0 (items_within d) ++ side_faults r modes row ms) e in
    let q = both_empty (clauses_faults r modes row l 0 (items_within d)) (side_faults r modes row ms) p.1 in
    found_at (good_list modes) (slice_cmp nat_cmp side l) d (get_member side ms) (clauses_good r modes row l 0 (items_within d) q.0) (side_get r modes row side ms q.1)

side_data : (r : Rows) (modes : List (List ℕ)) (row side : List ℕ) (d : Data) → side_faults r modes row (members_of d) ≡ [] → good_list modes (get side d) ≡ true
side_data r modes row side (table ms) e = side_get r modes row side ms e
side_data r modes row side (string s) e = refl
side_data r modes row side (integer z) e = refl
side_data r modes row side (float x) e = refl
side_data r modes row side (boolean b) e = refl
side_data r modes row side (datetime t) e = refl
side_data r modes row side (array ds) e = refl

row_get : (r : Rows) (modes : List (List ℕ)) (row side : List ℕ) (ms : Members) → row_faults r modes ms ≡ [] → good_sides modes side (get_member row ms) ≡ true
row_get r modes row side no_members e = refl
row_get r modes row side (member l d ms) e =
    let p = both_empty (unless (is_row r l && is_some (as_table d)) (rule (codes "rules." ++ l))) (side_faults r modes l (members_of d) ++ row_faults r modes ms) e in
    let q = both_empty (side_faults r modes l (members_of d)) (row_faults r modes ms) p.1 in
    found_at (good_sides modes side) (slice_cmp nat_cmp row l) d (get_member row ms) (side_data r modes l side d q.0) (row_get r modes row side ms q.1)

row_data : (r : Rows) (modes : List (List ℕ)) (row side : List ℕ) (d : Data) → row_faults r modes (members_of d) ≡ [] → good_sides modes side (get row d) ≡ true
row_data r modes row side (table ms) e = row_get r modes row side ms e
row_data r modes row side (string s) e = refl
row_data r modes row side (integer z) e = refl
row_data r modes row side (float x) e = refl
row_data r modes row side (boolean b) e = refl
row_data r modes row side (datetime t) e = refl
row_data r modes row side (array ds) e = refl

list_good : (modes : List (List ℕ)) (o : Option Data) → good_list modes o ≡ true → good_clauses modes (unwrap_or (option_and_then as_array o) no_items) ≡ true
list_good modes None h = refl
list_good modes (Some d) h = h

sides_good : (modes : List (List ℕ)) (side : List ℕ) (o : Option Data) → good_sides modes side o ≡ true → good_clauses modes (items_in side (unwrap_or o (table no_members))) ≡ true
sides_good modes side None h = refl
sides_good modes side (Some d) h = list_good modes (get side d) h

first_good : (b : Bool) (m : ℕ) (here more : Request) → asks_mode m here ≡ true → asks_mode m more ≡ true → asks_mode m (if b then here else more) ≡ true
first_good true m here more h k = h
first_good false m here more h k = k

request_good : (modes : List (List ℕ)) (own : List ℕ) (ds : Items) → good_clauses modes ds ≡ true → asks_mode (length modes) (asked modes ds own) ≡ true
request_good modes own no_items h = refl
request_good modes own (item d ds) h =
    let p = and_parts (is_mode_text modes (text_in (codes "mode") d)) (good_clauses modes ds) h in
    first_good (fits own d) (length modes) (request modes d) (asked modes ds own) (text_numbered modes (text_in (codes "mode") d) p.0) (request_good modes own ds p.1)

pub row_good : (r : Rows) (modes : List (List ℕ)) (row side own : List ℕ) (d : Data) → row_faults r modes (members_of d) ≡ [] → asks_mode (length modes) (asked modes (clauses_of d row side) own) ≡ true
row_good r modes row side own d e = request_good modes own (clauses_of d row side) (sides_good modes side (get row d) (row_data r modes row side d e))

all_asked : (modes : List (List ℕ)) (m : ℕ) (ds : Items) (owns : List (List ℕ)) → ((own : List ℕ) → asks_mode m (asked modes ds own) ≡ true)
    → list_all (asks_mode m) (map (asked modes ds) owns) ≡ true
all_asked modes m ds [] h = refl
all_asked modes m ds (o ∷ os) h = rw (h o, all_asked modes m ds os h)

each_length : (modes : List (List ℕ)) (ds : Items) (owns : List (List ℕ)) → length (map (asked modes ds) owns) ≡ length owns
each_length modes ds [] = refl
each_length modes ds (o ∷ os) = let more = each_length modes ds os in omega arith

pub each_good : (r : Rows) (modes : List (List ℕ)) (row side : List ℕ) (d : Data) → row_faults r modes (members_of d) ≡ [] → IsAsked (length modes) (asked_each modes (clauses_of d row side))
each_good r modes row side d e =
    let ds = clauses_of d row side in
    record {
      whole = let l = each_length modes ds (codes "none" ∷ modes) in grind (arith, l);
      modes = all_asked modes (length modes) ds (codes "none" ∷ modes) (λ own. row_good r modes row side own d e);
    }

update_good : (r : Rows) (u : Bool) (modes : List (List ℕ)) (d : Data) → row_faults r modes (members_of d) ≡ [] → asks_mode (length modes) (unwrap_or (asked_update u modes d) None) ≡ true
update_good r true modes d e = row_good r modes (codes "update") (codes "current") (codes "none") d e
update_good r false modes d e = refl

-- the whole --

pub sound : (rows : Rows) (u : Bool) (ds : Items) (b c r : Data) → count_faults (items_len ds) ≡ [] → mode_faults 0 [] ds ≡ [] → content_faults rows (names_of ds) b c r ≡ []
    → IsTable (table_of_parts u (names_of ds) b c r)
sound rows u ds b c r count names content =
    let modes = names_of ds in
    let p1 = both_empty (entry_faults modes (members_of b)) _ content in
    let p2 = both_empty (missing_faults modes b) _ p1.1 in
    let p3 = both_empty (held_faults modes (members_of c)) _ p2.1 in
    let p4 = both_empty (missing_pairs modes modes c) (row_faults rows modes (members_of r)) p3.1 in
    let n = held_by (nat_lt 0 (items_len ds) && nat_lt (items_len ds) 16) mode_count count in
    let few = and_parts (nat_lt 0 (items_len ds)) (nat_lt (items_len ds) 16) n in
    let len = all_named 0 [] ds names in
    record {
      some = rw len few.0;
      few = rw len few.1;
      named = good_names 0 [] ds names;
      compatible = square_length (stands b) modes modes;
      conversion = square_length (converts modes c) modes modes;
      conversions = all_converted modes c modes modes p3.0 p4.0;
      fetch_hit = row_good rows modes (codes "fetch-hit") (codes "current") (codes "none") r p4.1;
      fetch_miss = row_good rows modes (codes "fetch-miss") (codes "next") (codes "none") r p4.1;
      scan_key = row_good rows modes (codes "scan-key") (codes "current") (codes "none") r p4.1;
      scan_stop = row_good rows modes (codes "scan-stop") (codes "next") (codes "none") r p4.1;
      insert_current = each_good rows modes (codes "insert") (codes "current") r p4.1;
      insert_next = each_good rows modes (codes "insert") (codes "next") r p4.1;
      delete_current = each_good rows modes (codes "delete") (codes "current") r p4.1;
      delete_next = each_good rows modes (codes "delete") (codes "next") r p4.1;
      update = update_good rows u modes r p4.1;
    }

pub few_names : (names : List (String Global)) (ds : Items) → count_faults (items_len ds) ≡ [] → mode_faults 0 [] ds ≡ [] → map string_bytes names ≡ names_of ds → length names ≤ 15
few_names names ds count good seen =
    let n = held_by (nat_lt 0 (items_len ds) && nat_lt (items_len ds) 16) mode_count count in
    let few : nat_lt (items_len ds) 16 ≡ true = (and_parts (nat_lt 0 (items_len ds)) (nat_lt (items_len ds) 16) n).1 in
    let len = all_named 0 [] ds good in
    let same : length names ≡ items_len ds = sym (length-map names string_bytes) ∙ ap length seen ∙ len in
    grind (arith, nat_tests)
