-- The document that is written for a table: how deep it is, and that it has no date.
use Rattle.std.proofs.Common.{◌≡◌, ℕ, ◌≤◌, Option, List, [], ◌∷◌, length, take, drop, Bool, true, Some, None, Ordering, Less, Equal, Greater, nat_cmp, refl, arith, codes}
use Rattle.std.specs.Ordering.{match_ordering}
use Rattle.std.specs.Cmp.Lexicographic.{slice_cmp}
use Rattle.std.proofs.lemmas.Bool.{and_parts}
use Rattle.std.specs.Prelude.{pos}
use Rattle.toml.specs.Data.{Data, string, integer, array, table, Items, Members, no_members, member, depth, members_depth, items_depth, has_valid_dates, members_have_valid_dates, items_have_valid_dates}
use Rattle.kr_table.specs.Tables.{Request, TableData}
use Rattle.kr_table.specs.Writing.{put, strings, chosen, with_compatible, with_pairs, with_conversion, plain_clauses, own_clauses, one_side, both_sides, changing_row, all_rows, format_of, written}
use Rattle.kr_table.proofs.Written.{rules_with, written_with}

-- how deep it is --

depth_put_at : (n : ℕ) (k l : List ℕ) (d e : Data) (ms : Members) (o : Ordering) → depth d ≤ n → members_depth (member l e ms) ≤ n → members_depth (put k d ms) ≤ n
    → members_depth (match_ordering o (member k d (member l e ms)) (member l d ms) (member l e (put k d ms))) ≤ n
depth_put_at n k l d e ms Less h m more = grind arith
depth_put_at n k l d e ms Equal h m more = grind arith
depth_put_at n k l d e ms Greater h m more = grind arith

depth_put : (n : ℕ) (k : List ℕ) (d : Data) (ms : Members) → depth d ≤ n → members_depth ms ≤ n → members_depth (put k d ms) ≤ n
depth_put n k d no_members h m = grind arith
depth_put n k d (member l e ms) h m =
    let rest : members_depth ms ≤ n = grind arith in
    depth_put_at n k l d e ms (slice_cmp nat_cmp k l) h m (depth_put n k d ms h rest)

depth_strings : (ns : List (List ℕ)) → items_depth (strings ns) ≤ 0
depth_strings [] = omega arith
depth_strings (n ∷ ns) = let more = depth_strings ns in grind arith

depth_compatible : (names qs : List (List ℕ)) (bs : List Bool) (ms : Members) → members_depth ms ≤ 1 → members_depth (with_compatible names qs bs ms) ≤ 1
depth_compatible names [] bs ms h = h
depth_compatible names (q ∷ qs) bs ms h =
    let c = chosen names (take (length names) bs) in
    let s = depth_strings c in
    depth_compatible names qs (drop (length names) bs) (put q (array (strings c)) ms) (depth_put 1 q (array (strings c)) ms (grind arith) h)

depth_pairs : (names qs : List (List ℕ)) (cs : List ℕ) (ms : Members) → members_depth ms ≤ 0 → members_depth (with_pairs names qs cs ms) ≤ 0
depth_pairs names [] cs ms h = h
depth_pairs names (q ∷ qs) [] ms h = h
depth_pairs names (q ∷ qs) (c ∷ cs) ms h = depth_pairs names qs cs _ (depth_put 0 q (string _) ms (omega arith) h)

depth_conversion : (names hs : List (List ℕ)) (cs : List ℕ) (ms : Members) → members_depth ms ≤ 1 → members_depth (with_conversion names hs cs ms) ≤ 1
depth_conversion names [] cs ms h = h
depth_conversion names (k ∷ hs) cs ms h =
    let ps = with_pairs names names (take (length names) cs) no_members in
    let s = depth_pairs names names (take (length names) cs) no_members (omega arith) in
    depth_conversion names hs (drop (length names) cs) (put k (table ps) ms) (depth_put 1 k (table ps) ms (grind arith) h)

depth_plain : (names : List (List ℕ)) (r : Request) → items_depth (plain_clauses names r) ≤ 2
depth_plain names None = omega arith
depth_plain names (Some (q, s)) = omega arith

depth_own : (names os : List (List ℕ)) (rs : List Request) → items_depth (own_clauses names os rs) ≤ 2
depth_own names [] rs = omega arith
depth_own names (o ∷ os) [] = omega arith
depth_own names (o ∷ os) (None ∷ rs) = depth_own names os rs
depth_own names (o ∷ os) (Some (q, s) ∷ rs) = let more = depth_own names os rs in grind arith

depth_one : (side : List ℕ) (ds : Items) → items_depth ds ≤ 2 → depth (table (one_side side ds)) ≤ 79
depth_one side ds h = grind arith

depth_both : (current next : Items) → items_depth current ≤ 2 → items_depth next ≤ 2 → depth (table (both_sides current next)) ≤ 79
depth_both current next h k = grind arith

depth_asking : (side : List ℕ) (names : List (List ℕ)) (r : Request) → depth (table (one_side side (plain_clauses names r))) ≤ 79
depth_asking side names r = depth_one side (plain_clauses names r) (depth_plain names r)

depth_changing : (names : List (List ℕ)) (current next : List Request) → depth (table (changing_row names current next)) ≤ 79
depth_changing names current next =
    depth_both (own_clauses names (codes "none" ∷ names) current) (own_clauses names (codes "none" ∷ names) next)
    (depth_own names (codes "none" ∷ names) current) (depth_own names (codes "none" ∷ names) next)

depth_rows : (x : TableData) → members_depth (all_rows x) ≤ 79
depth_rows x =
    let names = x.modes.names in
    let hit = table (one_side (codes "current") (plain_clauses names x.fetch_hit)) in
    let a = put (codes "fetch-hit") hit no_members in
    let miss = table (one_side (codes "next") (plain_clauses names x.fetch_miss)) in
    let b = put (codes "fetch-miss") miss a in
    let key = table (one_side (codes "current") (plain_clauses names x.scan_key)) in
    let c = put (codes "scan-key") key b in
    let stop = table (one_side (codes "next") (plain_clauses names x.scan_stop)) in
    let d = put (codes "scan-stop") stop c in
    let insert = table (changing_row names x.insert_current x.insert_next) in
    let e = put (codes "insert") insert d in
    let delete = table (changing_row names x.delete_current x.delete_next) in
    depth_put 79 (codes "delete") delete e (depth_changing names x.delete_current x.delete_next)
    (depth_put 79 (codes "insert") insert d (depth_changing names x.insert_current x.insert_next)
    (depth_put 79 (codes "scan-stop") stop c (depth_asking (codes "next") names x.scan_stop)
    (depth_put 79 (codes "scan-key") key b (depth_asking (codes "current") names x.scan_key)
    (depth_put 79 (codes "fetch-miss") miss a (depth_asking (codes "next") names x.fetch_miss)
    (depth_put 79 (codes "fetch-hit") hit no_members (depth_asking (codes "current") names x.fetch_hit) (omega arith))))))

depth_rules : (x : TableData) (u : Option Request) → members_depth (rules_with x u) ≤ 79
depth_rules x None = depth_rows x
depth_rules x (Some r) =
    depth_put 79 (codes "update") (table (one_side (codes "current") (plain_clauses x.modes.names r))) (all_rows x) (depth_asking (codes "current") x.modes.names r) (depth_rows x)

depth_within : (ms : Members) → members_depth ms ≤ 79 → depth (table ms) ≤ 80
depth_within ms h = omega arith

depth_with : (x : TableData) (u : Option Request) → members_depth (written_with x u) ≤ 80
depth_with x u =
    let names = x.modes.names in
    let strings_low : depth (array (strings names)) ≤ 80 = let low = depth_strings names in omega arith in
    let compatible = with_compatible names names x.modes.compatible no_members in
    let compatible_low : members_depth compatible ≤ 79 = let low = depth_compatible names names x.modes.compatible no_members (omega arith) in omega (arith, low) in
    let conversion = with_conversion names names x.modes.conversion no_members in
    let conversion_low : members_depth conversion ≤ 79 = let low = depth_conversion names names x.modes.conversion no_members (omega arith) in omega (arith, low) in
    let format = integer (pos (format_of u)) in
    let a = put (codes "format") format no_members in
    let b = put (codes "modes") (array (strings names)) a in
    let c = put (codes "compatible") (table compatible) b in
    let d = put (codes "convert") (table conversion) c in
    depth_put 80 (codes "rules") (table (rules_with x u)) d (depth_within (rules_with x u) (depth_rules x u))
    (depth_put 80 (codes "convert") (table conversion) c (depth_within conversion conversion_low)
    (depth_put 80 (codes "compatible") (table compatible) b (depth_within compatible compatible_low)
    (depth_put 80 (codes "modes") (array (strings names)) a strings_low
    (depth_put 80 (codes "format") format no_members (omega arith) (omega arith)))))

pub written_depth : (x : TableData) → members_depth (written x) ≤ 80
written_depth x = depth_with x x.update

-- no date --

dates_put_at : (k l : List ℕ) (d e : Data) (ms : Members) (o : Ordering) → has_valid_dates d ≡ true → members_have_valid_dates (member l e ms) ≡ true → members_have_valid_dates (put k d ms) ≡ true
    → members_have_valid_dates (match_ordering o (member k d (member l e ms)) (member l d ms) (member l e (put k d ms))) ≡ true
dates_put_at k l d e ms Less h m more = rw (h, m)
dates_put_at k l d e ms Equal h m more = rw (h, (and_parts (has_valid_dates e) (members_have_valid_dates ms) m).1)
dates_put_at k l d e ms Greater h m more = rw ((and_parts (has_valid_dates e) (members_have_valid_dates ms) m).0, more)

dates_put : (k : List ℕ) (d : Data) (ms : Members) → has_valid_dates d ≡ true → members_have_valid_dates ms ≡ true → members_have_valid_dates (put k d ms) ≡ true
dates_put k d no_members h m = rw h
dates_put k d (member l e ms) h m = dates_put_at k l d e ms (slice_cmp nat_cmp k l) h m (dates_put k d ms h (and_parts (has_valid_dates e) (members_have_valid_dates ms) m).1)

dates_strings : (ns : List (List ℕ)) → items_have_valid_dates (strings ns) ≡ true
dates_strings [] = refl
dates_strings (n ∷ ns) = dates_strings ns

dates_compatible : (names qs : List (List ℕ)) (bs : List Bool) (ms : Members) → members_have_valid_dates ms ≡ true → members_have_valid_dates (with_compatible names qs bs ms) ≡ true
dates_compatible names [] bs ms h = h
dates_compatible names (q ∷ qs) bs ms h =
    let c = chosen names (take (length names) bs) in
    dates_compatible names qs (drop (length names) bs) (put q (array (strings c)) ms) (dates_put q (array (strings c)) ms (dates_strings c) h)

dates_pairs : (names qs : List (List ℕ)) (cs : List ℕ) (ms : Members) → members_have_valid_dates ms ≡ true → members_have_valid_dates (with_pairs names qs cs ms) ≡ true
dates_pairs names [] cs ms h = h
dates_pairs names (q ∷ qs) [] ms h = h
dates_pairs names (q ∷ qs) (c ∷ cs) ms h = dates_pairs names qs cs _ (dates_put q (string _) ms refl h)

dates_conversion : (names hs : List (List ℕ)) (cs : List ℕ) (ms : Members) → members_have_valid_dates ms ≡ true → members_have_valid_dates (with_conversion names hs cs ms) ≡ true
dates_conversion names [] cs ms h = h
dates_conversion names (k ∷ hs) cs ms h =
    let ps = with_pairs names names (take (length names) cs) no_members in
    dates_conversion names hs (drop (length names) cs) (put k (table ps) ms) (dates_put k (table ps) ms (dates_pairs names names (take (length names) cs) no_members refl) h)

dates_plain : (names : List (List ℕ)) (r : Request) → items_have_valid_dates (plain_clauses names r) ≡ true
dates_plain names None = refl
dates_plain names (Some (q, s)) = refl

dates_own : (names os : List (List ℕ)) (rs : List Request) → items_have_valid_dates (own_clauses names os rs) ≡ true
dates_own names [] rs = refl
dates_own names (o ∷ os) [] = refl
dates_own names (o ∷ os) (None ∷ rs) = dates_own names os rs
dates_own names (o ∷ os) (Some (q, s) ∷ rs) = dates_own names os rs

dates_with : (x : TableData) (u : Option Request) → members_have_valid_dates (written_with x u) ≡ true
dates_with x None =
    let owns = codes "none" ∷ x.modes.names in
    rw (
      dates_strings x.modes.names,
      dates_compatible x.modes.names x.modes.names x.modes.compatible no_members refl,
      dates_conversion x.modes.names x.modes.names x.modes.conversion no_members refl,
      dates_plain x.modes.names x.fetch_hit,
      dates_plain x.modes.names x.fetch_miss,
      dates_plain x.modes.names x.scan_key,
      dates_plain x.modes.names x.scan_stop,
      dates_own x.modes.names owns x.insert_current,
      dates_own x.modes.names owns x.insert_next,
      dates_own x.modes.names owns x.delete_current,
      dates_own x.modes.names owns x.delete_next,
    )
dates_with x (Some r) =
    let owns = codes "none" ∷ x.modes.names in
    rw (
      dates_strings x.modes.names,
      dates_compatible x.modes.names x.modes.names x.modes.compatible no_members refl,
      dates_conversion x.modes.names x.modes.names x.modes.conversion no_members refl,
      dates_plain x.modes.names x.fetch_hit,
      dates_plain x.modes.names x.fetch_miss,
      dates_plain x.modes.names x.scan_key,
      dates_plain x.modes.names x.scan_stop,
      dates_own x.modes.names owns x.insert_current,
      dates_own x.modes.names owns x.insert_next,
      dates_own x.modes.names owns x.delete_current,
      dates_own x.modes.names owns x.delete_next,
      dates_plain x.modes.names r,
    )

pub written_dates : (x : TableData) → members_have_valid_dates (written x) ≡ true
written_dates x = dates_with x x.update
