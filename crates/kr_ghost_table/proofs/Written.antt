-- The document that is written for a table with ghosts, and what it reads as.
use Rattle.std.proofs.Common.{◌≡◌, ℕ, suc, List, [], ◌∷◌, length, map, slice_index_or, Bool, true, Option, Some, None, Ok, is_some, refl, sym, ap, subst, ◌∙◌, arith, codes}
use Rattle.std.specs.Prelude.{All, unwrap_or}
use Rattle.std.specs.List.{list_all}
use Rattle.std.proofs.lemmas.Bool.{and_parts}
use Rattle.toml.specs.Data.{Data, table, Items, no_members, get, as_table}
use Rattle.kr_table.specs.declared.rows.Rows.TheVariants.{Ghosts}
use Rattle.kr_table.specs.Members.{items_len, items_in, integer_in, list_in, members_of, names_of}
use Rattle.kr_table.specs.DocumentFaults.{count_faults, mode_faults, content_faults, row_faults, side_faults}
use Rattle.kr_table.specs.Tables.{Request, TableData, IsAsked, asks_mode}
use Rattle.kr_table.specs.Reading.{square, stands, converts, asked, asked_each, asked_update, clauses_of, table_of_parts}
use Rattle.kr_table.specs.Writing.{strings, with_compatible, with_conversion, plain_clauses, own_clauses}
use Rattle.kr_table.proofs.ReadBack.{Distinct, distinct_from, none_apart, names_of_strings, len_strings, good_strings, within_itself, compatible_back, compatible_good, none_missing}
use Rattle.kr_table.proofs.ReadRest.{conversion_back, conversion_good, no_pair_missing, plain_back, plain_good, own_back, own_good, all_owns}
use Rattle.kr_ghost.specs.declared.vain.Vain.TheVariants.{InsertHit, DeleteMiss, UpdateMiss}
use Rattle.kr_ghost_table.specs.declared.vain.VainRows.{VainRows}
use Rattle.kr_ghost_table.specs.DocumentFaults.{format_faults, name_faults, delete_faults, is_purge, purge_faults, table_document_faults}
use Rattle.kr_ghost_table.specs.Tables.{GhostData, IsGhostTable, delete_of}
use Rattle.kr_ghost_table.specs.Reading.{vain_rows_in, heirs, table_of_members, judged}
use Rattle.kr_ghost_table.specs.Writing.{purge_of, sides_row, all_rows, written_rules, written}
use Rattle.kr_ghost_table.proofs.GivenRows.{other_rows, parts_over, current_asked, next_asked, vain_back, sides_good, vain_good}
use Rattle.kr_ghost_table.proofs.HeirsBack.{purge_good, purge_back}
use Rattle.kr_ghost_table.proofs.Whole.{judged_whole}

-- the parts of the document --

abbrev compatible_of : TableData → Data
compatible_of x = table (with_compatible x.modes.names x.modes.names x.modes.compatible no_members)

abbrev convert_of : TableData → Data
convert_of x = table (with_conversion x.modes.names x.modes.names x.modes.conversion no_members)

abbrev rules_of : GhostData → Data
rules_of x = table (written_rules x)

-- without the rows of the vain steps
abbrev rows_of : GhostData → Data
rows_of x = table (all_rows x)

-- the table that is read --

-- tables whose parts are the same are the same
same_table : (x : TableData) (b : List Bool) (cv : List ℕ) (fh fm sk ss : Request) (ic jn dc dn : List Request) (up : Option Request) → b ≡ x.modes.compatible → cv ≡ x.modes.conversion
    → fh ≡ x.fetch_hit → fm ≡ x.fetch_miss → sk ≡ x.scan_key → ss ≡ x.scan_stop → ic ≡ x.insert_current → jn ≡ x.insert_next → dc ≡ x.delete_current → dn ≡ x.delete_next → up ≡ x.update
    → ◌≡◌ {A = TableData} (record { modes = record { names = x.modes.names; compatible = b; conversion = cv }; fetch_hit = fh; fetch_miss = fm; scan_key = sk; scan_stop = ss; insert_current = ic; insert_next = jn; delete_current = dc; delete_next = dn; update = up }) x
same_table x b cv fh fm sk ss ic jn dc dn up e1 e2 e3 e4 e5 e6 e7 e8 e9 e10 e11 = rw (e1, e2, e3, e4, e5, e6, e7, e8, e9, e10, e11)

-- what is requested alike at each own mode
same_each : (f : List ℕ → Request) (r : Request) (owns : List (List ℕ)) (rs : List Request) → ((own : List ℕ) → f own ≡ r) → All (λ y. y ≡ r) rs → length rs ≡ length owns → map f owns ≡ rs
same_each f r [] [] h all l = refl
same_each f r [] (y ∷ rs) h all l = absurd (omega arith)
same_each f r (o ∷ os) [] h all l = absurd (omega arith)
same_each f r (o ∷ os) (y ∷ rs) h all l =
    let here : f o ≡ y = h o ∙ sym (all 0 y (omega arith)) in
    let more : map f os ≡ rs = same_each f r os rs h (λ k d low. all (suc k) d (omega arith)) (omega arith) in
    rw (here, more)

-- what an update requests, where updates are offered
same_update : (o : Option Request) → is_some o ≡ true → Some (unwrap_or o None) ≡ o
same_update None h = cc
same_update (Some r) h = refl

-- what a delete requests is a mode
delete_good : (m : ℕ) (rs : List Request) → IsAsked m rs → asks_mode m (slice_index_or rs 0 None) ≡ true
delete_good m [] a = refl
delete_good m (r ∷ rs) a = (and_parts (asks_mode m r) (list_all (asks_mode m) rs) a.modes).0

-- the table as one without ghosts, of the rows that every table has
rows_back : (x : GhostData) → IsGhostTable x → table_of_parts true x.table.modes.names (compatible_of x.table) (convert_of x.table) (rows_of x) ≡ x.table
rows_back x s =
    let t = s.table in
    let names = x.table.modes.names in
    let owns = codes "none" ∷ names in
    let d : Distinct names = distinct_from [] names t.named in
    let e : Distinct owns = (none_apart [] names t.named, d) in
    let each : (rs : List Request) → IsAsked (length names) rs → asked_each names (own_clauses names owns rs) ≡ rs = λ rs a. own_back names owns rs d e (a.whole ∙ omega arith) a.modes in
    same_table x.table (square (stands (compatible_of x.table)) names names)
    (square (converts names (convert_of x.table)) names names)
    (asked names (clauses_of (rows_of x) (codes "fetch-hit") (codes "current")) (codes "none"))
    (asked names (clauses_of (rows_of x) (codes "fetch-miss") (codes "next")) (codes "none"))
    (asked names (clauses_of (rows_of x) (codes "scan-key") (codes "current")) (codes "none"))
    (asked names (clauses_of (rows_of x) (codes "scan-stop") (codes "next")) (codes "none"))
    (asked_each names (clauses_of (rows_of x) (codes "insert") (codes "current")))
    (asked_each names (clauses_of (rows_of x) (codes "insert") (codes "next")))
    (asked_each names (clauses_of (rows_of x) (codes "delete") (codes "current")))
    (asked_each names (clauses_of (rows_of x) (codes "delete") (codes "next")))
    (asked_update true names (rows_of x))
    (compatible_back names names x.table.modes.compatible no_members d d t.compatible)
    (conversion_back names names x.table.modes.conversion no_members d d t.conversion t.conversions)
    (plain_back names x.table.fetch_hit (codes "none") d t.fetch_hit)
    (plain_back names x.table.fetch_miss (codes "none") d t.fetch_miss)
    (plain_back names x.table.scan_key (codes "none") d t.scan_key)
    (plain_back names x.table.scan_stop (codes "none") d t.scan_stop)
    (each x.table.insert_current t.insert_current)
    (each x.table.insert_next t.insert_next)
    (same_each (asked names (plain_clauses names (delete_of x.table))) (delete_of x.table) owns x.table.delete_current
    (λ own. plain_back names (delete_of x.table) own d (delete_good (length names) x.table.delete_current t.delete_current)) s.delete_current (t.delete_current.whole ∙ omega arith))
    (same_each (λ own. None) None owns x.table.delete_next (λ own. refl) s.delete_next (t.delete_next.whole ∙ omega arith))
    (ap (λ r. Some r) (plain_back names (unwrap_or x.table.update None) (codes "none") d t.update) ∙ same_update x.table.update s.updates)

-- and of all rows
parts_back : (x : GhostData) → IsGhostTable x → table_of_parts true x.table.modes.names (compatible_of x.table) (convert_of x.table) (rules_of x) ≡ x.table
parts_back x s = parts_over x.table.modes.names (compatible_of x.table) (convert_of x.table) x.vain (all_rows x) ∙ rows_back x s

-- at a side of the row that stands among all
revive_back : (x : GhostData) (side : List ℕ) (r : Request) → asked x.table.modes.names (items_in side (sides_row x.table.modes.names x.revive x.revive_next)) (codes "none") ≡ r
    → asked x.table.modes.names (clauses_of (rules_of x) (codes "revive") side) (codes "none") ≡ r
revive_back x side r h =
    let names = x.table.modes.names in
    ap (λ o. asked names (items_in side (unwrap_or o (table no_members))) (codes "none")) (other_rows (codes "revive") names x.vain (all_rows x) refl refl refl) ∙ h

same_data : (x : GhostData) (t : TableData) (r n : Request) (v : VainRows) (p : Option (List ℕ)) → t ≡ x.table → r ≡ x.revive → n ≡ x.revive_next → v ≡ x.vain → p ≡ x.purge
    → ◌≡◌ {A = GhostData} (record { table = t; revive = r; revive_next = n; vain = v; purge = p }) x
same_data x t r n v p e1 e2 e3 e4 e5 = rw (e1, e2, e3, e4, e5)

-- the whole table
table_back : (x : GhostData) → IsGhostTable x → table_of_members x.table.modes.names (compatible_of x.table) (convert_of x.table) (rules_of x) (purge_of x.table.modes.names x.purge) ≡ x
table_back x s =
    let names = x.table.modes.names in
    let d = distinct_from [] names s.table.named in
    same_data x (table_of_parts true names (compatible_of x.table) (convert_of x.table) (rules_of x))
    (asked names (clauses_of (rules_of x) (codes "revive") (codes "current")) (codes "none"))
    (asked names (clauses_of (rules_of x) (codes "revive") (codes "next")) (codes "none"))
    (vain_rows_in names (rules_of x))
    (heirs names (purge_of names x.purge))
    (parts_back x s)
    (revive_back x (codes "current") x.revive (current_asked names x.revive x.revive_next d s.revive))
    (revive_back x (codes "next") x.revive_next (next_asked names x.revive x.revive_next d s.revive_next))
    (vain_back names x.vain (all_rows x) d (s.vain InsertHit) s.insert_hit_next (s.vain DeleteMiss) (s.vain UpdateMiss) refl refl refl)
    (purge_back names x.purge d (none_apart [] names s.table.named) s.heirs)

-- no faults --

rows_good : (x : GhostData) → IsGhostTable x → row_faults Ghosts x.table.modes.names (all_rows x) ≡ []
rows_good x s =
    let t = s.table in
    let names = x.table.modes.names in
    let owns = codes "none" ∷ names in
    let w = all_owns names in
    rw (
      plain_good Ghosts names (codes "delete") (codes "current") (delete_of x.table) (delete_good (length names) x.table.delete_current t.delete_current),
      plain_good Ghosts names (codes "fetch-hit") (codes "current") x.table.fetch_hit t.fetch_hit,
      plain_good Ghosts names (codes "fetch-miss") (codes "next") x.table.fetch_miss t.fetch_miss,
      own_good Ghosts names (codes "insert") (codes "current") 0 owns x.table.insert_current refl w t.insert_current.modes,
      own_good Ghosts names (codes "insert") (codes "next") 0 owns x.table.insert_next refl w t.insert_next.modes,
      sides_good names (codes "revive") x.revive x.revive_next refl refl s.revive s.revive_next,
      plain_good Ghosts names (codes "scan-key") (codes "current") x.table.scan_key t.scan_key,
      plain_good Ghosts names (codes "scan-stop") (codes "next") x.table.scan_stop t.scan_stop,
      plain_good Ghosts names (codes "update") (codes "current") (unwrap_or x.table.update None) t.update,
    )

rules_good : (x : GhostData) → IsGhostTable x → row_faults Ghosts x.table.modes.names (written_rules x) ≡ []
rules_good x s = vain_good x.table.modes.names x.vain (all_rows x) (s.vain InsertHit) s.insert_hit_next (s.vain DeleteMiss) (s.vain UpdateMiss) (rows_good x s)

content_good : (x : GhostData) → IsGhostTable x → content_faults Ghosts x.table.modes.names (compatible_of x.table) (convert_of x.table) (rules_of x) ≡ []
content_good x s =
    let t = s.table in
    let names = x.table.modes.names in
    let d : Distinct names = distinct_from [] names t.named in
    let w = within_itself names in
    rw (
      compatible_good names names x.table.modes.compatible no_members w refl,
      none_missing names names x.table.modes.compatible no_members d,
      conversion_good names names x.table.modes.conversion no_members w t.conversions refl,
      no_pair_missing names names x.table.modes.conversion no_members d d t.conversion,
    )
    (rules_good x s)

purge_is_one : (names : List (List ℕ)) (o : Option (List ℕ)) → is_purge (Some (purge_of names o)) ≡ true
purge_is_one names None = refl
purge_is_one names (Some hs) = refl

-- a document whose parts have no faults
no_faults : (d : Data) (ds : Items) (b c r : Data) → format_faults (integer_in (codes "format") d) ≡ [] → name_faults (members_of d) ≡ [] → delete_faults d ≡ []
    → list_in (codes "modes") d ≡ Some ds → get (codes "compatible") d ≡ Some b → is_some (as_table b) ≡ true → get (codes "convert") d ≡ Some c → is_some (as_table c) ≡ true
    → get (codes "rules") d ≡ Some r → is_some (as_table r) ≡ true → purge_faults d ≡ [] → count_faults (items_len ds) ≡ [] → mode_faults 0 [] ds ≡ []
    → content_faults Ghosts (names_of ds) b c r ≡ [] → table_document_faults d ≡ []
no_faults d ds b c r f n l m gb ib gc ic gr ir p count good content = rw (f, n, l, m, gb, ib, gc, ic, gr, ir, p, count, good, content)

document_good : (x : GhostData) → IsGhostTable x → table_document_faults (table (written x)) ≡ []
document_good x s =
    let names = x.table.modes.names in
    let count : count_faults (items_len (strings names)) ≡ [] = rw (len_strings names, s.table.some, s.table.few) in
    let purge : purge_faults (table (written x)) ≡ [] = rw (purge_is_one names x.purge) in
    no_faults (table (written x)) (strings names) (compatible_of x.table) (convert_of x.table) (rules_of x) refl refl refl refl refl refl refl refl refl refl purge count
    (good_strings 0 [] names s.table.named)
    (subst (λ l. content_faults Ghosts l (compatible_of x.table) (convert_of x.table) (rules_of x) ≡ []) (sym (names_of_strings names)) (content_good x s))

-- the document that is written reads as the table
pub written_reads_back : (x : GhostData) → IsGhostTable x → judged (table (written x)) ≡ Ok x
written_reads_back x s =
    let names = x.table.modes.names in
    judged_whole (table (written x)) x names (compatible_of x.table) (convert_of x.table) (rules_of x) (purge_of names x.purge) (document_good x s) (names_of_strings names) refl refl refl refl
    (purge_good names x.purge (distinct_from [] names s.table.named) s.heirs) (sym (table_back x s))
