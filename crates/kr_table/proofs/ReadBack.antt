-- The document that is written for a table has no faults and gives the table.
use Rattle.std.proofs.Common.{◌≡◌, ℕ, zero, suc, ◌+◌, ◌-◌, ◌*◌, ◌<◌, ◌≤◌, ◌&&◌, ◌||◌, ◌==◌, not, List, [], ◌∷◌, ◌++◌, length, map, take, drop, Bool, true, false, true≢false, Option, Some, None, Ordering, Less, Equal, Greater, nat_cmp, refl, sym, ap, subst, ◌∙◌, arith, codes, nat_lt, nat_le, slice_index_or, if◌then◌else◌, length-drop}
use Rattle.std.specs.Prelude.{bytes_eq, option_and_then, unwrap_or}
use Rattle.std.specs.Ordering.{match_ordering}
use Rattle.std.specs.Cmp.Lexicographic.{slice_cmp}
use Rattle.std.proofs.lemmas.List.{length-take-le, take-append-drop}
use Rattle.std.proofs.lemmas.Bool.{and_parts}
use Rattle.std.proofs.lemmas.Bool.Decides.{nat_tests}
use Rattle.toml.specs.Data.{Data, array, table, Items, no_items, Members, no_members, member, get_member, as_array}
use Rattle.kr_model.specs.ModeNames.{name_of}
use Rattle.kr_model.specs.Firsts.{unless}
use Rattle.kr_table.specs.Faults.{compatible}
use Rattle.kr_table.specs.DocumentFaults.{mode_faults, is_good, is_printable, is_mode, is_entry, all_modes, entry_faults, missing_faults}
use Rattle.kr_table.specs.Members.{items_len, names_of}
use Rattle.kr_table.specs.Tables.{are_good, in_range}
use Rattle.kr_table.specs.Reading.{number, number_from, square, stands}
use Rattle.kr_table.specs.Writing.{put, strings, chosen, with_compatible}
use Rattle.kr_table.proofs.Puts.{get_put, get_put_other, differ, equal_itself}
use Rattle.kr_table.proofs.Sound.{both_empty, held_by}

-- names that differ --

abbrev pub Apart : List ℕ → List (List ℕ) → Type 0
Apart n [] = Unit {0}
Apart n (k ∷ ks) = (n ≡ k → ⊥) × Apart n ks

abbrev pub Distinct : List (List ℕ) → Type 0
Distinct [] = Unit {0}
Distinct (n ∷ ns) = Apart n ns × Distinct ns

last_two : (a b c d e : Bool) → (a && b && c && not d && not e) ≡ true → (d ≡ false) × (e ≡ false)
last_two true true true false false h = (refl, refl)
last_two true true true false true h = cc
last_two true true true true e h = cc
last_two true true false d e h = cc
last_two true false c d e h = cc
last_two false b c d e h = cc

good_parts : (before : List (List ℕ)) (n : List ℕ) → is_good before n ≡ true → (bytes_eq n (codes "none") ≡ false) × (is_mode before n ≡ false)
good_parts before n h = last_two (nat_lt 0 (length n)) (nat_lt (length n) 25) (is_printable n) (bytes_eq n (codes "none")) (is_mode before n) h

or_true : (a b : Bool) → b ≡ true → (a || b) ≡ true
or_true true b h = refl
or_true false b h = h

pub or_first : (a b : Bool) → a ≡ true → (a || b) ≡ true
or_first true b h = refl
or_first false b h = cc

mode_more_at : (a b c : Bool) → (b ≡ true → c ≡ true) → (a || b) ≡ true → (a || c) ≡ true
mode_more_at true b c f h = refl
mode_more_at false b c f h = f h

mode_more : (before more : List (List ℕ)) (k : List ℕ) → is_mode before k ≡ true → is_mode (before ++ more) k ≡ true
mode_more [] more k h = cc
mode_more (b ∷ before) more k h = mode_more_at (bytes_eq b k) (is_mode before k) (is_mode (before ++ more) k) (mode_more before more k) h

mode_last : (before : List (List ℕ)) (n : List ℕ) → is_mode (before ++ n ∷ []) n ≡ true
mode_last [] n = or_first (bytes_eq n n) false (equal_itself n)
mode_last (b ∷ before) n = or_true (bytes_eq b n) (is_mode (before ++ n ∷ []) n) (mode_last before n)

apart_from : (before ns : List (List ℕ)) (k : List ℕ) → are_good before ns ≡ true → is_mode before k ≡ true → Apart k ns
apart_from before [] k h m = tt
apart_from before (n ∷ ns) k h m =
    let p = and_parts (is_good before n) (are_good (before ++ n ∷ []) ns) h in
    let g = good_parts before n p.0 in
    (λ e. true≢false (sym (subst (λ l. is_mode before l ≡ true) e m) ∙ g.1), apart_from (before ++ n ∷ []) ns k p.1 (mode_more before (n ∷ []) k m))

pub distinct_from : (before ns : List (List ℕ)) → are_good before ns ≡ true → Distinct ns
distinct_from before [] h = tt
distinct_from before (n ∷ ns) h =
    let p = and_parts (is_good before n) (are_good (before ++ n ∷ []) ns) h in
    (apart_from (before ++ n ∷ []) ns n p.1 (mode_last before n), distinct_from (before ++ n ∷ []) ns p.1)

pub none_apart : (before ns : List (List ℕ)) → are_good before ns ≡ true → Apart (codes "none") ns
none_apart before [] h = tt
none_apart before (n ∷ ns) h =
    let p = and_parts (is_good before n) (are_good (before ++ n ∷ []) ns) h in
    let g = good_parts before n p.0 in
    (λ e. true≢false (sym (subst (λ l. bytes_eq l (codes "none") ≡ true) e (equal_itself (codes "none"))) ∙ g.0), none_apart (before ++ n ∷ []) ns p.1)

pub not_same : (n k : List ℕ) → (n ≡ k → ⊥) → bytes_eq k n ≡ false
not_same n k other = differ k n (λ e. other (sym e))

apart_at : (n : List ℕ) (ns : List (List ℕ)) (k : ℕ) → Apart n ns → k < length ns → n ≡ slice_index_or ns k [] → ⊥
apart_at n [] k a h = absurd (omega arith)
apart_at n (m ∷ ns) zero a h = a.0
apart_at n (m ∷ ns) (suc k) a h = apart_at n ns k a.1 (omega arith)

-- numbers of names --

number_step : (b : Bool) (i r : ℕ) → b ≡ false → (if b then i else r) ≡ r
number_step true i r h = cc
number_step false i r h = refl

number_here : (b : Bool) (i r : ℕ) → b ≡ true → (if b then i else r) ≡ i
number_here true i r h = refl
number_here false i r h = cc

number_at : (i : ℕ) (names : List (List ℕ)) (k : ℕ) → Distinct names → k < length names → number_from i names (slice_index_or names k []) ≡ i + k
number_at i [] k d h = absurd (omega arith)
number_at i (n ∷ ns) zero d h = number_here (bytes_eq n n) i (number_from (i + 1) ns n) (equal_itself n) ∙ omega arith
number_at i (n ∷ ns) (suc k) d h =
    let within : k < length ns = omega arith in
    let other = differ n (slice_index_or ns k []) (apart_at n ns k d.0 within) in
    let more : number_from (i + 1) ns (slice_index_or ns k []) ≡ i + 1 + k = number_at (i + 1) ns k d.1 within in
    number_step (bytes_eq n (slice_index_or ns k [])) i (number_from (i + 1) ns (slice_index_or ns k [])) other ∙ (more ∙ omega arith)

mode_at : (names : List (List ℕ)) (k : ℕ) → k < length names → is_mode names (slice_index_or names k []) ≡ true
mode_at [] k h = absurd (omega arith)
mode_at (n ∷ ns) zero h = or_first (bytes_eq n n) (is_mode ns n) (equal_itself n)
mode_at (n ∷ ns) (suc k) h = or_true (bytes_eq n (slice_index_or ns k [])) (is_mode ns (slice_index_or ns k [])) (mode_at ns k (omega arith))

range_of : (m c : ℕ) → in_range m c ≡ true → (0 < c) × (c ≤ m)
range_of m c h =
    let p = and_parts (nat_lt 0 c) (nat_le c m) h in
    let a : nat_lt 0 c ≡ true = p.0 in
    let b : nat_le c m ≡ true = p.1 in
    (grind (arith, nat_tests), grind (arith, nat_tests))

named : (names : List (List ℕ)) (c : ℕ) → 0 < c → name_of names c ≡ slice_index_or names (c - 1) []
named names c h = let e : (c == 0) ≡ false = grind (arith, nat_tests) in rw e

pub number_name : (names : List (List ℕ)) (c : ℕ) → Distinct names → in_range (length names) c ≡ true → number names (name_of names c) ≡ c
number_name names c d h =
    let r = range_of (length names) c h in
    let some : 0 < c = r.0 in
    let few : c ≤ length names = r.1 in
    ap (number names) (named names c some) ∙ (number_at 1 names (c - 1) d (omega arith) ∙ omega arith)

pub mode_name_of : (names : List (List ℕ)) (c : ℕ) → in_range (length names) c ≡ true → is_mode names (name_of names c) ≡ true
mode_name_of names c h =
    let r = range_of (length names) c h in
    let some : 0 < c = r.0 in
    let few : c ≤ length names = r.1 in
    ap (is_mode names) (named names c some) ∙ mode_at names (c - 1) (omega arith)

-- the names of the modes --

pub names_of_strings : (ns : List (List ℕ)) → names_of (strings ns) ≡ ns
names_of_strings [] = refl
names_of_strings (n ∷ ns) = ap (λ l. n ∷ l) (names_of_strings ns)

pub len_strings : (ns : List (List ℕ)) → items_len (strings ns) ≡ length ns
len_strings [] = refl
len_strings (n ∷ ns) = let e : items_len (strings ns) ≡ length ns = len_strings ns in omega arith

pub good_strings : (i : ℕ) (before ns : List (List ℕ)) → are_good before ns ≡ true → mode_faults i before (strings ns) ≡ []
good_strings i before [] h = refl
good_strings i before (n ∷ ns) h =
    let p = and_parts (is_good before n) (are_good (before ++ n ∷ []) ns) h in
    rw (p.0, good_strings (i + 1) (before ++ n ∷ []) ns p.1)

abbrev pub Within : List (List ℕ) → List (List ℕ) → Type 0
Within modes [] = Unit {0}
Within modes (n ∷ ns) = (is_mode modes n ≡ true) × Within modes ns

within_more : (m : List ℕ) (modes ns : List (List ℕ)) → Within modes ns → Within (m ∷ modes) ns
within_more m modes [] w = tt
within_more m modes (n ∷ ns) w = (or_true (bytes_eq m n) (is_mode modes n) w.0, within_more m modes ns w.1)

pub within_itself : (ns : List (List ℕ)) → Within ns ns
within_itself [] = tt
within_itself (n ∷ ns) = (or_first (bytes_eq n n) (is_mode ns n) (equal_itself n), within_more n ns ns (within_itself ns))

-- which modes stand together --

chosen_all : (modes ns : List (List ℕ)) (bs : List Bool) → Within modes ns → all_modes modes (strings (chosen ns bs)) ≡ true
chosen_all modes [] bs w = refl
chosen_all modes (n ∷ ns) [] w = refl
chosen_all modes (n ∷ ns) (true ∷ bs) w = rw (w.0, chosen_all modes ns bs w.1)
chosen_all modes (n ∷ ns) (false ∷ bs) w = chosen_all modes ns bs w.1

pub or_false : (a b : Bool) → a ≡ false → (a || b) ≡ b
or_false true b h = cc
or_false false b h = refl

chosen_apart : (n : List ℕ) (ns : List (List ℕ)) (bs : List Bool) → Apart n ns → is_mode (chosen ns bs) n ≡ false
chosen_apart n [] bs a = refl
chosen_apart n (k ∷ ns) [] a = refl
chosen_apart n (k ∷ ns) (true ∷ bs) a = or_false (bytes_eq k n) (is_mode (chosen ns bs) n) (not_same n k a.0) ∙ chosen_apart n ns bs a.1
chosen_apart n (k ∷ ns) (false ∷ bs) a = chosen_apart n ns bs a.1

other_names : (n : List ℕ) (c ns : List (List ℕ)) → Apart n ns → map (λ h. is_mode (n ∷ c) h) ns ≡ map (λ h. is_mode c h) ns
other_names n c [] a = refl
other_names n c (k ∷ ns) a = rw (or_false (bytes_eq n k) (is_mode c k) (differ n k a.0), other_names n c ns a.1)

chosen_back : (ns : List (List ℕ)) (bs : List Bool) → Distinct ns → length bs ≡ length ns → map (λ h. is_mode (chosen ns bs) h) ns ≡ bs
chosen_back [] [] d l = refl
chosen_back [] (b ∷ bs) d l = absurd (omega arith)
chosen_back (n ∷ ns) [] d l = absurd (omega arith)
chosen_back (n ∷ ns) (true ∷ bs) d l =
    let more = chosen_back ns bs d.1 (omega arith) in
    rw (or_first (bytes_eq n n) (is_mode (chosen ns bs) n) (equal_itself n), other_names n (chosen ns bs) ns d.0, more)
chosen_back (n ∷ ns) (false ∷ bs) d l =
    let more = chosen_back ns bs d.1 (omega arith) in
    rw (chosen_apart n ns bs d.0, more)

lines_other : (names qs : List (List ℕ)) (bs : List Bool) (ms : Members) (q : List ℕ) → Apart q qs → get_member q (with_compatible names qs bs ms) ≡ get_member q ms
lines_other names [] bs ms q a = refl
lines_other names (k ∷ qs) bs ms q a =
    let d = array (strings (chosen names (take (length names) bs))) in
    lines_other names qs (drop (length names) bs) (put k d ms) q a.1 ∙ get_put_other q k d ms a.0

line_found : (names qs : List (List ℕ)) (bs : List Bool) (ms : Members) (q : List ℕ) → Apart q qs
    → get_member q (with_compatible names (q ∷ qs) bs ms) ≡ Some (array (strings (chosen names (take (length names) bs))))
line_found names qs bs ms q a =
    let d = array (strings (chosen names (take (length names) bs))) in
    lines_other names qs (drop (length names) bs) (put q d ms) q a ∙ get_put q d ms

pub no_more : {A : Type 0} (xs : List A) → length xs ≡ 0 → [] ≡ xs
no_more [] h = refl
no_more (x ∷ xs) h = absurd (omega arith)

pub two_parts : {A : Type 0} (xs ys front back : List A) → xs ≡ front → ys ≡ back → xs ++ ys ≡ front ++ back
two_parts xs ys front back e f = rw (e, f)

next_line : (a b : ℕ) → suc a * b ≡ b + a * b
next_line a b = grind arith

pub room_first : (n a m : ℕ) → n ≡ suc a * m → m ≤ n
room_first n a m h = let e = next_line a m in omega (arith, e)

pub room_rest : (n a m : ℕ) → n ≡ suc a * m → n - m ≡ a * m
room_rest n a m h = let e = next_line a m in omega (arith, e)

pub compatible_back : (names qs : List (List ℕ)) (bs : List Bool) (ms : Members) → Distinct names → Distinct qs → length bs ≡ length qs * length names
    → square (stands (table (with_compatible names qs bs ms))) qs names ≡ bs
compatible_back names [] bs ms d e l = no_more bs (l ∙ grind arith)
compatible_back names (q ∷ qs) bs ms d e l =
    let m = length names in
    let all = with_compatible names (q ∷ qs) bs ms in
    let found = line_found names qs bs ms q e.0 in
    let first_len : length (take m bs) ≡ m = length-take-le m bs (room_first (length bs) (length qs) m l) in
    let here = ap (λ o. map (λ h. is_mode (names_of (unwrap_or (option_and_then as_array o) no_items)) h) names) found
    ∙ (ap (λ c. map (λ h. is_mode c h) names) (names_of_strings (chosen names (take m bs))) ∙ chosen_back names (take m bs) d first_len) in
    let rest_len : length (drop m bs) ≡ length qs * m = length-drop m bs ∙ room_rest (length bs) (length qs) m l in
    let more = compatible_back names qs (drop m bs) (put q (array (strings (chosen names (take m bs)))) ms) d e.1 rest_len in
    two_parts (map (stands (table all) q) names) (square (stands (table all)) qs names) (take m bs) (drop m bs) here more ∙ take-append-drop m bs

entry_name : (modes : List (List ℕ)) (k : List ℕ) (o : Option Items) → is_entry modes k o ≡ true → is_mode modes k ≡ true
entry_name modes k None h = cc
entry_name modes k (Some ds) h = (and_parts (is_mode modes k) (all_modes modes ds) h).0

entry_put_at : (modes : List (List ℕ)) (k l : List ℕ) (ds : Items) (e : Data) (ms : Members) (o : Ordering) → is_mode modes k ≡ true → all_modes modes ds ≡ true
    → is_entry modes l (as_array e) ≡ true → entry_faults modes ms ≡ [] → entry_faults modes (put k (array ds) ms) ≡ []
    → entry_faults modes (match_ordering o (member k (array ds) (member l e ms)) (member l (array ds) ms) (member l e (put k (array ds) ms))) ≡ []
entry_put_at modes k l ds e ms Less m a here rest more = rw (m, a, here, rest)
entry_put_at modes k l ds e ms Equal m a here rest more = rw (entry_name modes l (as_array e) here, a, rest)
entry_put_at modes k l ds e ms Greater m a here rest more = rw (here, more)

entry_put : (modes : List (List ℕ)) (k : List ℕ) (ds : Items) (ms : Members) → is_mode modes k ≡ true → all_modes modes ds ≡ true → entry_faults modes ms ≡ [] → entry_faults modes (put k (array ds) ms) ≡ []
entry_put modes k ds no_members m a h = rw (m, a)
entry_put modes k ds (member l e ms) m a h =
    let n = both_empty (unless (is_entry modes l (as_array e)) (compatible (codes "compatible." ++ l))) (entry_faults modes ms) h in
    let here = held_by (is_entry modes l (as_array e)) (compatible (codes "compatible." ++ l)) n.0 in
    entry_put_at modes k l ds e ms (slice_cmp nat_cmp k l) m a here n.1 (entry_put modes k ds ms m a n.1)

pub compatible_good : (names qs : List (List ℕ)) (bs : List Bool) (ms : Members) → Within names qs → entry_faults names ms ≡ [] → entry_faults names (with_compatible names qs bs ms) ≡ []
compatible_good names [] bs ms w h = h
compatible_good names (q ∷ qs) bs ms w h =
    let c = chosen names (take (length names) bs) in
    compatible_good names qs (drop (length names) bs) (put q (array (strings c)) ms) w.1
    (entry_put names q (strings c) ms w.0 (chosen_all names names (take (length names) bs) (within_itself names)) h)

pub none_missing : (names qs : List (List ℕ)) (bs : List Bool) (ms : Members) → Distinct qs → missing_faults qs (table (with_compatible names qs bs ms)) ≡ []
none_missing names [] bs ms d = refl
none_missing names (q ∷ qs) bs ms d =
    rw (line_found names qs bs ms q d.0, none_missing names qs (drop (length names) bs) (put q (array (strings (chosen names (take (length names) bs)))) ms) d.1)
