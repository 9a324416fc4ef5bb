-- The conversions and the rules that are written for a table are read back.
use Rattle.std.proofs.Common.{◌≡◌, ℕ, zero, suc, ◌+◌, ◌*◌, ◌&&◌, ◌||◌, List, [], ◌∷◌, ◌++◌, length, map, take, drop, Bool, true, false, Some, None, is_some, Ordering, Less, Equal, Greater, nat_cmp, refl, ap, ◌∙◌, arith, codes, length-drop, if◌then◌else◌}
use Rattle.std.specs.Prelude.{bytes_eq, option_and_then}
use Rattle.std.specs.List.{list_all}
use Rattle.std.specs.Ordering.{match_ordering}
use Rattle.std.specs.Cmp.Lexicographic.{slice_cmp}
use Rattle.std.proofs.lemmas.Bool.{and_parts}
use Rattle.std.proofs.lemmas.List.{length-take-le, take-append-drop}
use Rattle.toml.specs.Data.{Data, string, table, Items, item, Members, no_members, member, get, get_member, as_str, as_table}
use Rattle.kr_model.specs.declared.Span.{Span}
use Rattle.kr_model.specs.declared.Span.TheVariants.{Instant, Commit}
use Rattle.kr_model.specs.ModeNames.{name_of}
use Rattle.kr_model.specs.Firsts.{unless}
use Rattle.kr_table.specs.Faults.{convert}
use Rattle.kr_table.specs.declared.rows.Rows.{Rows}
use Rattle.kr_table.specs.DocumentFaults.{is_mode, is_mode_text, pair_faults, held_faults, missing_of, missing_pairs, clauses_faults, sees_own, is_own_text}
use Rattle.kr_table.specs.Members.{pair_in, members_of}
use Rattle.kr_table.specs.Tables.{Request, in_range, asks_mode}
use Rattle.kr_table.specs.Reading.{number, square, converts, text_of, asked, request}
use Rattle.kr_table.specs.Writing.{put, with_pairs, with_conversion, plain_clause, plain_clauses, own_clauses, own_clause}
use Rattle.kr_table.proofs.Puts.{get_put, get_put_other, differ, equal_itself}
use Rattle.kr_table.proofs.Sound.{both_empty, held_by}
use Rattle.kr_table.proofs.ReadBack.{Apart, Distinct, Within, number_name, mode_name_of, within_itself, room_first, room_rest, no_more, two_parts, or_first, or_false, not_same}

-- conversions --

pairs_other : (names qs : List (List ℕ)) (cs : List ℕ) (ms : Members) (q : List ℕ) → Apart q qs → get_member q (with_pairs names qs cs ms) ≡ get_member q ms
pairs_other names [] cs ms q a = refl
pairs_other names (k ∷ qs) [] ms q a = refl
pairs_other names (k ∷ qs) (c ∷ cs) ms q a =
    pairs_other names qs cs (put k (string (name_of names c)) ms) q a.1 ∙ get_put_other q k (string (name_of names c)) ms a.0

pair_found : (names qs : List (List ℕ)) (c : ℕ) (cs : List ℕ) (ms : Members) (q : List ℕ) → Apart q qs → get_member q (with_pairs names (q ∷ qs) (c ∷ cs) ms) ≡ Some (string (name_of names c))
pair_found names qs c cs ms q a = pairs_other names qs cs (put q (string (name_of names c)) ms) q a ∙ get_put q (string (name_of names c)) ms

pairs_back : (names qs : List (List ℕ)) (cs : List ℕ) (ms : Members) → Distinct names → Distinct qs → length cs ≡ length qs → list_all (in_range (length names)) cs ≡ true
    → map (λ q. number names (text_of (get_member q (with_pairs names qs cs ms)))) qs ≡ cs
pairs_back names [] [] ms d e l r = refl
pairs_back names [] (c ∷ cs) ms d e l r = absurd (omega arith)
pairs_back names (q ∷ qs) [] ms d e l r = absurd (omega arith)
pairs_back names (q ∷ qs) (c ∷ cs) ms d e l r =
    let p = and_parts (in_range (length names) c) (list_all (in_range (length names)) cs) r in
    let here = ap (λ o. number names (text_of o)) (pair_found names qs c cs ms q e.0) ∙ number_name names c d p.0 in
    let more = pairs_back names qs cs (put q (string (name_of names c)) ms) d e.1 (omega arith) p.1 in
    two_parts (number names (text_of (get_member q (with_pairs names (q ∷ qs) (c ∷ cs) ms))) ∷ []) (map (λ k. number names (text_of (get_member k (with_pairs names (q ∷ qs) (c ∷ cs) ms)))) qs) (c ∷ []) cs (ap (λ n. n ∷ []) here) more

held_other : (names hs : List (List ℕ)) (cs : List ℕ) (ms : Members) (q : List ℕ) → Apart q hs → get_member q (with_conversion names hs cs ms) ≡ get_member q ms
held_other names [] cs ms q a = refl
held_other names (k ∷ hs) cs ms q a =
    let d = table (with_pairs names names (take (length names) cs) no_members) in
    held_other names hs (drop (length names) cs) (put k d ms) q a.1 ∙ get_put_other q k d ms a.0

held_found : (names hs : List (List ℕ)) (cs : List ℕ) (ms : Members) (h : List ℕ) → Apart h hs
    → get_member h (with_conversion names (h ∷ hs) cs ms) ≡ Some (table (with_pairs names names (take (length names) cs) no_members))
held_found names hs cs ms h a =
    let d = table (with_pairs names names (take (length names) cs) no_members) in
    held_other names hs (drop (length names) cs) (put h d ms) h a ∙ get_put h d ms

all_parts : (m n : ℕ) (cs : List ℕ) → list_all (in_range m) cs ≡ true → (list_all (in_range m) (take n cs) ≡ true) × (list_all (in_range m) (drop n cs) ≡ true)
all_parts m zero cs h = (refl, h)
all_parts m (suc n) [] h = (refl, refl)
all_parts m (suc n) (c ∷ cs) h =
    let p = and_parts (in_range m c) (list_all (in_range m) cs) h in
    let q = all_parts m n cs p.1 in
    (rw (p.0, q.0), q.1)

pub conversion_back : (names hs : List (List ℕ)) (cs : List ℕ) (ms : Members) → Distinct names → Distinct hs → length cs ≡ length hs * length names → list_all (in_range (length names)) cs ≡ true
    → square (converts names (table (with_conversion names hs cs ms))) hs names ≡ cs
conversion_back names [] cs ms d e l r = no_more cs (l ∙ grind arith)
conversion_back names (h ∷ hs) cs ms d e l r =
    let m = length names in
    let all = with_conversion names (h ∷ hs) cs ms in
    let found = held_found names hs cs ms h e.0 in
    let first_len : length (take m cs) ≡ m = length-take-le m cs (room_first (length cs) (length hs) m l) in
    let parts = all_parts m m cs r in
    let here = ap (λ o. map (λ q. number names (text_of (option_and_then (get q) o))) names) found ∙ pairs_back names names (take m cs) no_members d d first_len parts.0 in
    let rest_len : length (drop m cs) ≡ length hs * m = length-drop m cs ∙ room_rest (length cs) (length hs) m l in
    let more = conversion_back names hs (drop m cs) (put h (table (with_pairs names names (take m cs) no_members)) ms) d e.1 rest_len parts.1 in
    two_parts (map (converts names (table all) h) names) (square (converts names (table all)) hs names) (take m cs) (drop m cs) here more ∙ take-append-drop m cs

pair_put_at : (modes : List (List ℕ)) (h k l s : List ℕ) (e : Data) (ms : Members) (o : Ordering) → is_mode modes k ≡ true → is_mode modes s ≡ true
    → (is_mode modes l && is_mode_text modes (as_str e)) ≡ true → pair_faults modes h ms ≡ [] → pair_faults modes h (put k (string s) ms) ≡ []
    → pair_faults modes h (match_ordering o (member k (string s) (member l e ms)) (member l (string s) ms) (member l e (put k (string s) ms))) ≡ []
pair_put_at modes h k l s e ms Less m t here rest more = rw (m, t, here, rest)
pair_put_at modes h k l s e ms Equal m t here rest more = rw ((and_parts (is_mode modes l) (is_mode_text modes (as_str e)) here).0, t, rest)
pair_put_at modes h k l s e ms Greater m t here rest more = rw (here, more)

pair_put : (modes : List (List ℕ)) (h k s : List ℕ) (ms : Members) → is_mode modes k ≡ true → is_mode modes s ≡ true → pair_faults modes h ms ≡ [] → pair_faults modes h (put k (string s) ms) ≡ []
pair_put modes h k s no_members m t e = rw (m, t)
pair_put modes h k s (member l d ms) m t e =
    let n = both_empty (unless (is_mode modes l && is_mode_text modes (as_str d)) (convert (codes "convert." ++ h ++ codes "." ++ l))) (pair_faults modes h ms) e in
    let here = held_by (is_mode modes l && is_mode_text modes (as_str d)) (convert (codes "convert." ++ h ++ codes "." ++ l)) n.0 in
    pair_put_at modes h k l s d ms (slice_cmp nat_cmp k l) m t here n.1 (pair_put modes h k s ms m t n.1)

pairs_good : (names : List (List ℕ)) (h : List ℕ) (qs : List (List ℕ)) (cs : List ℕ) (ms : Members) → Within names qs → list_all (in_range (length names)) cs ≡ true
    → pair_faults names h ms ≡ [] → pair_faults names h (with_pairs names qs cs ms) ≡ []
pairs_good names h [] cs ms w r e = e
pairs_good names h (q ∷ qs) [] ms w r e = e
pairs_good names h (q ∷ qs) (c ∷ cs) ms w r e =
    let p = and_parts (in_range (length names) c) (list_all (in_range (length names)) cs) r in
    pairs_good names h qs cs (put q (string (name_of names c)) ms) w.1 p.1 (pair_put names h q (name_of names c) ms w.0 (mode_name_of names c p.0) e)

held_put_at : (modes : List (List ℕ)) (k l : List ℕ) (ps : Members) (e : Data) (ms : Members) (o : Ordering) → is_mode modes k ≡ true → ((h : List ℕ) → pair_faults modes h ps ≡ [])
    → (is_mode modes l && is_some (as_table e)) ≡ true → pair_faults modes l (members_of e) ≡ [] → held_faults modes ms ≡ [] → held_faults modes (put k (table ps) ms) ≡ []
    → held_faults modes (match_ordering o (member k (table ps) (member l e ms)) (member l (table ps) ms) (member l e (put k (table ps) ms))) ≡ []
held_put_at modes k l ps e ms Less m f here inner rest more = rw (m, f k, here, inner, rest)
held_put_at modes k l ps e ms Equal m f here inner rest more = rw ((and_parts (is_mode modes l) (is_some (as_table e)) here).0, f l, rest)
held_put_at modes k l ps e ms Greater m f here inner rest more = rw (here, inner, more)

held_put : (modes : List (List ℕ)) (k : List ℕ) (ps ms : Members) → is_mode modes k ≡ true → ((h : List ℕ) → pair_faults modes h ps ≡ []) → held_faults modes ms ≡ [] → held_faults modes (put k (table ps) ms) ≡ []
held_put modes k ps no_members m f e = rw (m, f k)
held_put modes k ps (member l d ms) m f e =
    let n = both_empty (unless (is_mode modes l && is_some (as_table d)) (convert (codes "convert." ++ l))) (pair_faults modes l (members_of d) ++ held_faults modes ms) e in
    let here = held_by (is_mode modes l && is_some (as_table d)) (convert (codes "convert." ++ l)) n.0 in
    let r = both_empty (pair_faults modes l (members_of d)) (held_faults modes ms) n.1 in
    held_put_at modes k l ps d ms (slice_cmp nat_cmp k l) m f here r.0 r.1 (held_put modes k ps ms m f r.1)

pub conversion_good : (names hs : List (List ℕ)) (cs : List ℕ) (ms : Members) → Within names hs → list_all (in_range (length names)) cs ≡ true → held_faults names ms ≡ []
    → held_faults names (with_conversion names hs cs ms) ≡ []
conversion_good names [] cs ms w r e = e
conversion_good names (h ∷ hs) cs ms w r e =
    let m = length names in
    let parts = all_parts m m cs r in
    let ps = with_pairs names names (take m cs) no_members in
    conversion_good names hs (drop m cs) (put h (table ps) ms) w.1 parts.1
    (held_put names h ps ms w.0 (λ l. pairs_good names l names (take m cs) no_members (within_itself names) parts.0 refl) e)

one_none_missing : (names : List (List ℕ)) (h : List ℕ) (d : Data) (qs : List (List ℕ)) (cs : List ℕ) (ms : Members) → Distinct qs → length cs ≡ length qs
    → get h d ≡ Some (table (with_pairs names qs cs ms)) → missing_of h qs d ≡ []
one_none_missing names h d [] cs ms e l found = refl
one_none_missing names h d (q ∷ qs) [] ms e l found = absurd (omega arith)
one_none_missing names h d (q ∷ qs) (c ∷ cs) ms e l found =
    let here : pair_in d h q ≡ Some (string (name_of names c)) = ap (option_and_then (get q)) found ∙ pair_found names qs c cs ms q e.0 in
    rw (here, one_none_missing names h d qs cs (put q (string (name_of names c)) ms) e.1 (omega arith) found)

pub no_pair_missing : (names hs : List (List ℕ)) (cs : List ℕ) (ms : Members) → Distinct names → Distinct hs → length cs ≡ length hs * length names
    → missing_pairs hs names (table (with_conversion names hs cs ms)) ≡ []
no_pair_missing names [] cs ms d e l = refl
no_pair_missing names (h ∷ hs) cs ms d e l =
    let m = length names in
    let first_len : length (take m cs) ≡ m = length-take-le m cs (room_first (length cs) (length hs) m l) in
    let rest_len : length (drop m cs) ≡ length hs * m = length-drop m cs ∙ room_rest (length cs) (length hs) m l in
    let all = with_conversion names (h ∷ hs) cs ms in
    let here = one_none_missing names h (table all) names (take m cs) no_members d first_len (held_found names hs cs ms h e.0) in
    let more = no_pair_missing names hs (drop m cs) (put h (table (with_pairs names names (take m cs) no_members)) ms) d e.1 rest_len in
    two_parts (missing_of h names (table all)) (missing_pairs hs names (table all)) [] [] here more

-- rules --

same_request : (names : List (List ℕ)) (q : ℕ) (s : Span) → Distinct names → in_range (length names) q ≡ true → request names (table (plain_clause names q s)) ≡ Some (q, s)
same_request names q Instant d r = rw (number_name names q d r)
same_request names q Commit d r = rw (number_name names q d r)

own_request : (names : List (List ℕ)) (o : List ℕ) (q : ℕ) (s : Span) → Distinct names → in_range (length names) q ≡ true → request names (table (own_clause names o q s)) ≡ Some (q, s)
own_request names o q Instant d r = rw (number_name names q d r)
own_request names o q Commit d r = rw (number_name names q d r)

pub plain_back : (names : List (List ℕ)) (r : Request) (own : List ℕ) → Distinct names → asks_mode (length names) r ≡ true → asked names (plain_clauses names r) own ≡ r
plain_back names None own d h = refl
plain_back names (Some (q, s)) own d h = same_request names q s d h

if_true : (b : Bool) (x y : Request) → b ≡ true → (if b then x else y) ≡ x
if_true true x y h = refl
if_true false x y h = cc

if_false : (b : Bool) (x y : Request) → b ≡ false → (if b then x else y) ≡ y
if_false true x y h = cc
if_false false x y h = refl

own_none : (names os : List (List ℕ)) (rs : List Request) (o : List ℕ) → Apart o os → asked names (own_clauses names os rs) o ≡ None
own_none names [] rs o a = refl
own_none names (k ∷ os) [] o a = refl
own_none names (k ∷ os) (None ∷ rs) o a = own_none names os rs o a.1
own_none names (k ∷ os) (Some (q, s) ∷ rs) o a =
    if_false (bytes_eq k o || false) (request names (table (own_clause names k q s))) (asked names (own_clauses names os rs) o) (or_false (bytes_eq k o) false (not_same o k a.0)) ∙ own_none names os rs o a.1

own_later : (names : List (List ℕ)) (o : List ℕ) (q : ℕ) (s : Span) (ds : Items) (os : List (List ℕ)) → Apart o os
    → map (asked names (item (table (own_clause names o q s)) ds)) os ≡ map (asked names ds) os
own_later names o q s ds [] a = refl
own_later names o q s ds (k ∷ os) a =
    two_parts (asked names (item (table (own_clause names o q s)) ds) k ∷ []) (map (asked names (item (table (own_clause names o q s)) ds)) os) (asked names ds k ∷ []) (map (asked names ds) os)
    (ap (λ r. r ∷ []) (if_false (bytes_eq o k || false) (request names (table (own_clause names o q s))) (asked names ds k) (or_false (bytes_eq o k) false (differ o k a.0)))) (own_later names o q s ds os a.1)

pub own_back : (names owns : List (List ℕ)) (rs : List Request) → Distinct names → Distinct owns → length rs ≡ length owns → list_all (asks_mode (length names)) rs ≡ true
    → map (asked names (own_clauses names owns rs)) owns ≡ rs
own_back names [] [] d e l r = refl
own_back names [] (x ∷ rs) d e l r = absurd (omega arith)
own_back names (o ∷ os) [] d e l r = absurd (omega arith)
own_back names (o ∷ os) (None ∷ rs) d e l r =
    two_parts (asked names (own_clauses names os rs) o ∷ []) (map (asked names (own_clauses names os rs)) os) (None ∷ []) rs
    (ap (λ x. x ∷ []) (own_none names os rs o e.0)) (own_back names os rs d e.1 (omega arith) r)
own_back names (o ∷ os) (Some (q, s) ∷ rs) d e l r =
    let p = and_parts (in_range (length names) q) (list_all (asks_mode (length names)) rs) r in
    let here = if_true (bytes_eq o o || false) (request names (table (own_clause names o q s))) (asked names (own_clauses names os rs) o) (or_first (bytes_eq o o) false (equal_itself o)) ∙ own_request names o q s d p.0 in
    two_parts (asked names (own_clauses names (o ∷ os) (Some (q, s) ∷ rs)) o ∷ []) (map (asked names (own_clauses names (o ∷ os) (Some (q, s) ∷ rs))) os) (Some (q, s) ∷ []) rs
    (ap (λ x. x ∷ []) here) (own_later names o q s (own_clauses names os rs) os e.0 ∙ own_back names os rs d e.1 (omega arith) p.1)

pub plain_good : (rows : Rows) (names : List (List ℕ)) (row side : List ℕ) (r : Request) → asks_mode (length names) r ≡ true → clauses_faults rows names row side 0 (plain_clauses names r) ≡ []
plain_good rows names row side None h = refl
plain_good rows names row side (Some (q, Instant)) h = rw (mode_name_of names q h)
plain_good rows names row side (Some (q, Commit)) h = rw (mode_name_of names q h)

abbrev pub Owns : List (List ℕ) → List (List ℕ) → Type 0
Owns modes [] = Unit {0}
Owns modes (o ∷ os) = (is_own_text modes (Some o) ≡ true) × Owns modes os

owns_at : (b : Bool) → b ≡ true → (c : Bool) → (c || b) ≡ true
owns_at b h true = refl
owns_at b h false = h

owns_within : (modes ns : List (List ℕ)) → Within modes ns → Owns modes ns
owns_within modes [] w = tt
owns_within modes (n ∷ ns) w = (owns_at (is_mode modes n) w.0 (bytes_eq n (codes "none")), owns_within modes ns w.1)

pub all_owns : (names : List (List ℕ)) → Owns names (codes "none" ∷ names)
all_owns names = (refl, owns_within names names (within_itself names))

pub own_good : (rows : Rows) (names : List (List ℕ)) (row side : List ℕ) (i : ℕ) (owns : List (List ℕ)) (rs : List Request) → sees_own rows row ≡ true → Owns names owns → list_all (asks_mode (length names)) rs ≡ true
    → clauses_faults rows names row side i (own_clauses names owns rs) ≡ []
own_good rows names row side i [] rs c w r = refl
own_good rows names row side i (o ∷ os) [] c w r = refl
own_good rows names row side i (o ∷ os) (None ∷ rs) c w r = own_good rows names row side i os rs c w.1 r
own_good rows names row side i (o ∷ os) (Some (q, Instant) ∷ rs) c w r =
    let p = and_parts (in_range (length names) q) (list_all (asks_mode (length names)) rs) r in
    rw (mode_name_of names q p.0, c, w.0, own_good rows names row side (i + 1) os rs c w.1 p.1)
own_good rows names row side i (o ∷ os) (Some (q, Commit) ∷ rs) c w r =
    let p = and_parts (in_range (length names) q) (list_all (asks_mode (length names)) rs) r in
    rw (mode_name_of names q p.0, c, w.0, own_good rows names row side (i + 1) os rs c w.1 p.1)
