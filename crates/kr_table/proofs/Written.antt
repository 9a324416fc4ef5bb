-- The document that is written for a table, and what it reads as.
use Rattle.std.proofs.Common.{◌≡◌, ℕ, is_some, Option, List, [], ◌∷◌, length, Bool, true, false, Some, None, refl, sym, ap, subst, ◌∙◌, arith, codes, Ok}
use Rattle.std.specs.Prelude.{pos, unwrap_or}
use Rattle.toml.specs.Data.{Data, integer, array, table, Items, Members, no_members}
use Rattle.kr_table.specs.declared.rows.Rows.TheVariants.{Plain, Updates}
use Rattle.kr_table.specs.DocumentFaults.{content_faults, row_faults, count_faults, format_faults, name_faults, updates_in, rows_of}
use Rattle.kr_table.specs.Members.{items_len, integer_in, list_in}
use Rattle.kr_table.specs.Tables.{Request, TableData, IsAsked, IsTable, asks_mode}
use Rattle.kr_table.specs.Reading.{square, stands, converts, asked, asked_each, asked_update, clauses_of, table_of_parts, judged}
use Rattle.kr_table.specs.Writing.{put, strings, with_compatible, with_conversion, plain_clauses, own_clauses, all_rows, with_update, format_of, written}
use Rattle.kr_table.proofs.ReadBack.{Distinct, distinct_from, none_apart, names_of_strings, len_strings, good_strings, within_itself, compatible_back, compatible_good, none_missing}
use Rattle.kr_table.proofs.ReadRest.{conversion_back, conversion_good, no_pair_missing, plain_back, plain_good, own_back, own_good, all_owns}
use Rattle.kr_table.proofs.Whole.{judged_parts}

-- a table with the row of updates, or without one --

-- the rules, and the document, where this is what an update requests
abbrev pub rules_with : TableData → Option Request → Members
rules_with x u = with_update x.modes.names u (all_rows x)

abbrev pub written_with : TableData → Option Request → Members
written_with x u =
    put (codes "rules") (table (rules_with x u))
    (put (codes "convert") (table (with_conversion x.modes.names x.modes.names x.modes.conversion no_members))
    (put (codes "compatible") (table (with_compatible x.modes.names x.modes.names x.modes.compatible no_members))
    (put (codes "modes") (array (strings x.modes.names))
    (put (codes "format") (integer (pos (format_of u))) no_members))))

-- the table that is read --

same_table : (x : TableData) (b : List Bool) (cv : List ℕ) (fh fm sk ss : Request) (ic jn dc dn : List Request) (up : Option Request) → b ≡ x.modes.compatible → cv ≡ x.modes.conversion
    → fh ≡ x.fetch_hit → fm ≡ x.fetch_miss → sk ≡ x.scan_key → ss ≡ x.scan_stop → ic ≡ x.insert_current → jn ≡ x.insert_next → dc ≡ x.delete_current → dn ≡ x.delete_next → up ≡ x.update
    → ◌≡◌ {A = TableData} (record { modes = record { names = x.modes.names; compatible = b; conversion = cv }; fetch_hit = fh; fetch_miss = fm; scan_key = sk; scan_stop = ss; insert_current = ic; insert_next = jn; delete_current = dc; delete_next = dn; update = up }) x
same_table x b cv fh fm sk ss ic jn dc dn up e1 e2 e3 e4 e5 e6 e7 e8 e9 e10 e11 = rw (e1, e2, e3, e4, e5, e6, e7, e8, e9, e10, e11)

-- by what its rules have at each row and side
parts_from : (x : TableData) → IsTable x → (rules : Data) (u : Bool)
    → clauses_of rules (codes "fetch-hit") (codes "current") ≡ plain_clauses x.modes.names x.fetch_hit
    → clauses_of rules (codes "fetch-miss") (codes "next") ≡ plain_clauses x.modes.names x.fetch_miss
    → clauses_of rules (codes "scan-key") (codes "current") ≡ plain_clauses x.modes.names x.scan_key
    → clauses_of rules (codes "scan-stop") (codes "next") ≡ plain_clauses x.modes.names x.scan_stop
    → clauses_of rules (codes "insert") (codes "current") ≡ own_clauses x.modes.names (codes "none" ∷ x.modes.names) x.insert_current
    → clauses_of rules (codes "insert") (codes "next") ≡ own_clauses x.modes.names (codes "none" ∷ x.modes.names) x.insert_next
    → clauses_of rules (codes "delete") (codes "current") ≡ own_clauses x.modes.names (codes "none" ∷ x.modes.names) x.delete_current
    → clauses_of rules (codes "delete") (codes "next") ≡ own_clauses x.modes.names (codes "none" ∷ x.modes.names) x.delete_next
    → asked_update u x.modes.names rules ≡ x.update
    → table_of_parts u x.modes.names (table (with_compatible x.modes.names x.modes.names x.modes.compatible no_members)) (table (with_conversion x.modes.names x.modes.names x.modes.conversion no_members)) rules ≡ x
parts_from x t rules u h1 h2 h3 h4 h5 h6 h7 h8 h9 =
    let names = x.modes.names in
    let owns = codes "none" ∷ names in
    let d : Distinct names = distinct_from [] names t.named in
    let e : Distinct owns = (none_apart [] names t.named, d) in
    let plain : (ds : Items) (r : Request) → ds ≡ plain_clauses names r → asks_mode (length names) r ≡ true → asked names ds (codes "none") ≡ r = λ ds r h good.
    ap (λ cs. asked names cs (codes "none")) h ∙ plain_back names r (codes "none") d good in
    let each : (ds : Items) (rs : List Request) → ds ≡ own_clauses names owns rs → IsAsked (length names) rs → asked_each names ds ≡ rs = λ ds rs h a.
    ap (λ cs. asked_each names cs) h ∙ own_back names owns rs d e (a.whole ∙ omega arith) a.modes in
    same_table x (square (stands (table (with_compatible names names x.modes.compatible no_members))) names names)
    (square (converts names (table (with_conversion names names x.modes.conversion no_members))) names names)
    (asked names (clauses_of rules (codes "fetch-hit") (codes "current")) (codes "none"))
    (asked names (clauses_of rules (codes "fetch-miss") (codes "next")) (codes "none"))
    (asked names (clauses_of rules (codes "scan-key") (codes "current")) (codes "none"))
    (asked names (clauses_of rules (codes "scan-stop") (codes "next")) (codes "none"))
    (asked_each names (clauses_of rules (codes "insert") (codes "current")))
    (asked_each names (clauses_of rules (codes "insert") (codes "next")))
    (asked_each names (clauses_of rules (codes "delete") (codes "current")))
    (asked_each names (clauses_of rules (codes "delete") (codes "next")))
    (asked_update u names rules)
    (compatible_back names names x.modes.compatible no_members d d t.compatible)
    (conversion_back names names x.modes.conversion no_members d d t.conversion t.conversions)
    (plain _ x.fetch_hit h1 t.fetch_hit)
    (plain _ x.fetch_miss h2 t.fetch_miss)
    (plain _ x.scan_key h3 t.scan_key)
    (plain _ x.scan_stop h4 t.scan_stop)
    (each _ x.insert_current h5 t.insert_current)
    (each _ x.insert_next h6 t.insert_next)
    (each _ x.delete_current h7 t.delete_current)
    (each _ x.delete_next h8 t.delete_next)
    h9

parts_back : (x : TableData) → IsTable x → (u : Option Request) → x.update ≡ u
    → table_of_parts (is_some u) x.modes.names (table (with_compatible x.modes.names x.modes.names x.modes.compatible no_members)) (table (with_conversion x.modes.names x.modes.names x.modes.conversion no_members)) (table (rules_with x u)) ≡ x
parts_back x t None e = parts_from x t (table (rules_with x None)) false refl refl refl refl refl refl refl refl (sym e)
parts_back x t (Some r) e =
    parts_from x t (table (rules_with x (Some r))) true refl refl refl refl refl refl refl refl
    (ap (λ z. Some z) (plain_back x.modes.names r (codes "none") (distinct_from [] x.modes.names t.named) (subst (λ o. asks_mode (length x.modes.names) (unwrap_or o None) ≡ true) e t.update)) ∙ sym e)

rules_good : (x : TableData) → IsTable x → (u : Option Request) → x.update ≡ u → row_faults (rows_of (is_some u)) x.modes.names (rules_with x u) ≡ []
rules_good x t None e =
    let owns = codes "none" ∷ x.modes.names in
    let w = all_owns x.modes.names in
    rw (
      own_good Plain x.modes.names (codes "delete") (codes "current") 0 owns x.delete_current refl w t.delete_current.modes,
      own_good Plain x.modes.names (codes "delete") (codes "next") 0 owns x.delete_next refl w t.delete_next.modes,
      plain_good Plain x.modes.names (codes "fetch-hit") (codes "current") x.fetch_hit t.fetch_hit,
      plain_good Plain x.modes.names (codes "fetch-miss") (codes "next") x.fetch_miss t.fetch_miss,
      own_good Plain x.modes.names (codes "insert") (codes "current") 0 owns x.insert_current refl w t.insert_current.modes,
      own_good Plain x.modes.names (codes "insert") (codes "next") 0 owns x.insert_next refl w t.insert_next.modes,
      plain_good Plain x.modes.names (codes "scan-key") (codes "current") x.scan_key t.scan_key,
      plain_good Plain x.modes.names (codes "scan-stop") (codes "next") x.scan_stop t.scan_stop,
    )
rules_good x t (Some r) e =
    let owns = codes "none" ∷ x.modes.names in
    let w = all_owns x.modes.names in
    rw (
      own_good Updates x.modes.names (codes "delete") (codes "current") 0 owns x.delete_current refl w t.delete_current.modes,
      own_good Updates x.modes.names (codes "delete") (codes "next") 0 owns x.delete_next refl w t.delete_next.modes,
      plain_good Updates x.modes.names (codes "fetch-hit") (codes "current") x.fetch_hit t.fetch_hit,
      plain_good Updates x.modes.names (codes "fetch-miss") (codes "next") x.fetch_miss t.fetch_miss,
      own_good Updates x.modes.names (codes "insert") (codes "current") 0 owns x.insert_current refl w t.insert_current.modes,
      own_good Updates x.modes.names (codes "insert") (codes "next") 0 owns x.insert_next refl w t.insert_next.modes,
      plain_good Updates x.modes.names (codes "scan-key") (codes "current") x.scan_key t.scan_key,
      plain_good Updates x.modes.names (codes "scan-stop") (codes "next") x.scan_stop t.scan_stop,
      plain_good Updates x.modes.names (codes "update") (codes "current") r (subst (λ o. asks_mode (length x.modes.names) (unwrap_or o None) ≡ true) e t.update),
    )

content_good : (x : TableData) → IsTable x → (u : Option Request) → x.update ≡ u
    → content_faults (rows_of (is_some u)) x.modes.names (table (with_compatible x.modes.names x.modes.names x.modes.compatible no_members)) (table (with_conversion x.modes.names x.modes.names x.modes.conversion no_members)) (table (rules_with x u)) ≡ []
content_good x t u e =
    let d : Distinct x.modes.names = distinct_from [] x.modes.names t.named in
    let w = within_itself x.modes.names in
    rw (
      compatible_good x.modes.names x.modes.names x.modes.compatible no_members w refl,
      none_missing x.modes.names x.modes.names x.modes.compatible no_members d,
      conversion_good x.modes.names x.modes.names x.modes.conversion no_members w t.conversions refl,
      no_pair_missing x.modes.names x.modes.names x.modes.conversion no_members d d t.conversion,
    )
    (rules_good x t u e)

reads_back : (x : TableData) → IsTable x → (u : Option Request) → x.update ≡ u → format_faults (integer_in (codes "format") (table (written_with x u))) ≡ []
    → updates_in (table (written_with x u)) ≡ is_some u → name_faults (written_with x u) ≡ []
    → list_in (codes "modes") (table (written_with x u)) ≡ Some (strings x.modes.names)
    → judged (table (written_with x u)) ≡ Ok x
reads_back x t u e format up names list =
    let count : count_faults (items_len (strings x.modes.names)) ≡ [] = rw (len_strings x.modes.names, t.some, t.few) in
    let same = names_of_strings x.modes.names in
    let b = table (with_compatible x.modes.names x.modes.names x.modes.compatible no_members) in
    let c = table (with_conversion x.modes.names x.modes.names x.modes.conversion no_members) in
    let r = table (rules_with x u) in
    judged_parts (is_some u) (table (written_with x u)) (strings x.modes.names) b c r format up names list refl refl refl refl refl refl count (good_strings 0 [] x.modes.names t.named)
    (subst (λ l. content_faults (rows_of (is_some u)) l b c r ≡ []) (sym same) (content_good x t u e))
    ∙ ap Ok (ap (λ l. table_of_parts (is_some u) l b c r) same ∙ parts_back x t u e)

by_update : (x : TableData) → IsTable x → (u : Option Request) → x.update ≡ u → judged (table (written_with x u)) ≡ Ok x
by_update x t None e = reads_back x t None e refl refl refl refl
by_update x t (Some r) e = reads_back x t (Some r) e refl refl refl refl

pub written_reads_back : (x : TableData) → IsTable x → judged (table (written x)) ≡ Ok x
written_reads_back x t = by_update x t x.update refl
