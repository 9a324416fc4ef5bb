-- The document's parts put together.
use Rattle.std.proofs.Common.{◌≡◌, ℕ, Bool, List, [], map, String, Global, string_bytes, Option, Some, None, Ok, true, is_some, subst, sym, ◌∙◌, ap, codes, Err}
use Rattle.std.specs.Prelude.{IfSome, unwrap_or}
use Rattle.kr_table.specs.Answer.{Gives}
use Rattle.kr_table.specs.declared.faults.TableFault.{TableFault}
use Rattle.kr_table.proofs.Lists.{first_append}
use Rattle.toml.specs.Data.{Data, Items, no_items, no_members, table, get, as_table}
use Rattle.kr_table.specs.declared.rows.Rows.{Rows}
use Rattle.kr_table.specs.declared.table.Parts.{Parts}
use Rattle.kr_table.specs.Shown.{data_of}
use Rattle.kr_model.specs.Firsts.{first}
use Rattle.kr_table.specs.Faults.{Fault, Tells, fault_of}
use Rattle.kr_table.specs.Members.{modes_in, names_of, items_len, integer_in, members_of, list_in, data_in}
use Rattle.kr_table.specs.DocumentFaults.{mode_faults, count_faults, content_faults, format_faults, name_faults, faults, updates_in, rows_of}
use Rattle.kr_table.specs.Tables.{IsTable, TableData}
use Rattle.kr_table.specs.Reading.{matrix_in, table_of_parts, judged, table_of, unless_faulty}
use Rattle.kr_table.proofs.Sound.{sound}
use Rattle.kr_table.proofs.Laws.{matrix_sound}
use Rattle.kr_table.specs.Matrix.{IsMatrix}

pub table_sound : (rows : Rows) (u : Bool) (p : Parts) (names : List (String Global)) (ds : Items) (b c r : Data) → count_faults (items_len ds) ≡ [] → mode_faults 0 [] ds ≡ []
    → map string_bytes names ≡ names_of ds → content_faults rows (map string_bytes names) b c r ≡ [] → data_of p ≡ table_of_parts u (map string_bytes names) b c r → IsTable (data_of p)
table_sound rows u p names ds b c r count good seen content made =
    let s = sound rows u ds b c r count good (subst (λ l. content_faults rows l b c r ≡ []) seen content) in
    subst IsTable (sym (made ∙ ap (λ l. table_of_parts u l b c r) seen)) s

-- the modes of a document whose parts have no faults are a matrix
pub modes_sound : (rows : Rows) (names : List (String Global)) (ds : Items) (b c r : Data) → count_faults (items_len ds) ≡ [] → mode_faults 0 [] ds ≡ []
    → map string_bytes names ≡ names_of ds → content_faults rows (map string_bytes names) b c r ≡ [] → IsMatrix (matrix_in (map string_bytes names) b c)
modes_sound rows names ds b c r count good seen content =
    let s = sound rows true ds b c r count good (subst (λ l. content_faults rows l b c r ≡ []) seen content) in
    subst (λ l. IsMatrix (matrix_in l b c)) (sym seen) (matrix_sound (table_of_parts true (names_of ds) b c r) s)

table_seen : (u : Bool) (d : Data) (ds : Items) (b c r : Data) → updates_in d ≡ u → list_in (codes "modes") d ≡ Some ds → get (codes "compatible") d ≡ Some b → get (codes "convert") d ≡ Some c → get (codes "rules") d ≡ Some r
    → table_of d ≡ table_of_parts u (names_of ds) b c r
table_seen u d ds b c r up m gb gc gr =
    ap (λ z. table_of_parts z (modes_in d) (data_in (codes "compatible") d) (data_in (codes "convert") d) (data_in (codes "rules") d)) up ∙
    (ap (λ o. table_of_parts u (names_of (unwrap_or o no_items)) (data_in (codes "compatible") d) (data_in (codes "convert") d) (data_in (codes "rules") d)) m
    ∙ (ap (λ o. table_of_parts u (names_of ds) (unwrap_or o (table no_members)) (data_in (codes "convert") d) (data_in (codes "rules") d)) gb
    ∙ (ap (λ o. table_of_parts u (names_of ds) b (unwrap_or o (table no_members)) (data_in (codes "rules") d)) gc
    ∙ ap (λ o. table_of_parts u (names_of ds) b c (unwrap_or o (table no_members))) gr)))

judged_by : (d : Data) (x : TableData) → faults d ≡ [] → table_of d ≡ x → judged d ≡ Ok x
judged_by d x none made = ap (λ fs. unless_faulty (first fs) (table_of d)) none ∙ ap Ok made

pub judged_parts : (u : Bool) (d : Data) (ds : Items) (b c r : Data) → format_faults (integer_in (codes "format") d) ≡ [] → updates_in d ≡ u → name_faults (members_of d) ≡ []
    → list_in (codes "modes") d ≡ Some ds → get (codes "compatible") d ≡ Some b → is_some (as_table b) ≡ true → get (codes "convert") d ≡ Some c → is_some (as_table c) ≡ true
    → get (codes "rules") d ≡ Some r → is_some (as_table r) ≡ true → count_faults (items_len ds) ≡ [] → mode_faults 0 [] ds ≡ []
    → content_faults (rows_of u) (names_of ds) b c r ≡ [] → judged d ≡ Ok (table_of_parts u (names_of ds) b c r)
judged_parts u d ds b c r f up n m gb ib gc ic gr ir count good content =
    let none : faults d ≡ [] = rw (f, up, n, m, gb, ib, gc, ic, gr, ir, count, good, content) in
    judged_by d (table_of_parts u (names_of ds) b c r) none (table_seen u d ds b c r up m gb gc gr)

pub judged_whole : (u : Bool) (d : Data) (x : TableData) (ds : Items) (names : List (List ℕ)) (b c r : Data) → format_faults (integer_in (codes "format") d) ≡ [] → updates_in d ≡ u → name_faults (members_of d) ≡ []
    → list_in (codes "modes") d ≡ Some ds → get (codes "compatible") d ≡ Some b → is_some (as_table b) ≡ true → get (codes "convert") d ≡ Some c → is_some (as_table c) ≡ true
    → get (codes "rules") d ≡ Some r → is_some (as_table r) ≡ true → count_faults (items_len ds) ≡ [] → mode_faults 0 [] ds ≡ [] → names ≡ names_of ds
    → content_faults (rows_of u) names b c r ≡ [] → x ≡ table_of_parts u names b c r → judged d ≡ Ok x
judged_whole u d x ds names b c r f up n m gb ib gc ic gr ir count good seen content made =
    judged_parts u d ds b c r f up n m gb ib gc ic gr ir count good (subst (λ l. content_faults (rows_of u) l b c r ≡ []) seen content)
    ∙ ap Ok (sym (made ∙ ap (λ l. table_of_parts u l b c r) seen))

first_told : (u : Bool) (o : Option Fault) (d : Data) (ds : Items) (b c r : Data) → format_faults (integer_in (codes "format") d) ≡ [] → updates_in d ≡ u → name_faults (members_of d) ≡ []
    → list_in (codes "modes") d ≡ Some ds → get (codes "compatible") d ≡ Some b → is_some (as_table b) ≡ true → get (codes "convert") d ≡ Some c → is_some (as_table c) ≡ true
    → get (codes "rules") d ≡ Some r → is_some (as_table r) ≡ true → count_faults (items_len ds) ≡ []
    → IfSome o (λ f. first (mode_faults 0 [] ds) ≡ Some f) → IfSome o (λ f. judged d ≡ Err f)
first_told u None d ds b c r f up n m gb ib gc ic gr ir count h = tt
first_told u (Some x) d ds b c r f up n m gb ib gc ic gr ir count h =
    let told = first_append (mode_faults 0 [] ds) (content_faults (rows_of u) (names_of ds) b c r) x h in
    rw (f, up, n, m, gb, ib, gc, ic, gr, ir, count, told)

pub names_told : (u : Bool) (e : TableFault) (d : Data) (ds : Items) (b c r : Data) → format_faults (integer_in (codes "format") d) ≡ [] → updates_in d ≡ u → name_faults (members_of d) ≡ []
    → list_in (codes "modes") d ≡ Some ds → get (codes "compatible") d ≡ Some b → is_some (as_table b) ≡ true → get (codes "convert") d ≡ Some c → is_some (as_table c) ≡ true
    → get (codes "rules") d ≡ Some r → is_some (as_table r) ≡ true → count_faults (items_len ds) ≡ []
    → Tells e (mode_faults 0 [] ds) → Gives (Err e) (judged d)
names_told u e d ds b c r f up n m gb ib gc ic gr ir count h = first_told u (fault_of e) d ds b c r f up n m gb ib gc ic gr ir count h
