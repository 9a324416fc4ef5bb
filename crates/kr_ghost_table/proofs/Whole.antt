-- A document's parts put together.
use Rattle.std.proofs.Common.{◌≡◌, ℕ, List, [], ◌++◌, map, Option, Some, None, Ok, Err, Bool, true, false, if◌then◌else◌, length, is_some, refl, subst, sym, ap, ◌∙◌, codes}
use Rattle.std.specs.Prelude.{IfSome, unwrap_or}
use Rattle.toml.specs.Data.{Data, Items, get, as_table}
use Rattle.kr_model.specs.Firsts.{first}
use Rattle.kr_table.specs.declared.faults.TableFault.{TableFault}
use Rattle.kr_table.specs.declared.rows.Rows.TheVariants.{Ghosts}
use Rattle.kr_table.specs.Faults as of_table
use Rattle.kr_table.specs.Members.{integer_in, list_in, items_in, data_in, members_of, items_len, names_of, modes_in}
use Rattle.kr_table.specs.DocumentFaults.{list_faults, table_faults, count_faults, mode_faults, content_faults, entry_faults, missing_faults, held_faults, missing_pairs, row_faults}
use Rattle.kr_table.specs.Tables.{Request, asks_mode}
use Rattle.kr_table.specs.Reading.{asked, clauses_of}
use Rattle.kr_table.proofs.Lists.{first_append}
use Rattle.kr_table.proofs.Sound.{both_empty, sound, row_good}
use Rattle.kr_ghost.specs.declared.vain.Vain.{Vain}
use Rattle.kr_ghost.specs.declared.vain.Vain.TheVariants.{InsertHit, DeleteMiss, UpdateMiss}
use Rattle.kr_ghost_table.specs.declared.faults.GhostTableFault.{GhostTableFault}
use Rattle.kr_ghost_table.specs.Faults.{Fault, Tells, fault_of, table}
use Rattle.kr_ghost_table.specs.DocumentFaults.{format_faults, name_faults, delete_faults, purge_faults, table_document_faults, heir_faults, faults}
use Rattle.kr_ghost_table.specs.Tables.{GhostData, IsGhostTable, vain_row, current_of, next_of}
use Rattle.kr_ghost_table.specs.Reading.{row_in, vain_rows_in, table_of, table_of_members, judged, unless_faulty, sides_in}
use Rattle.kr_ghost_table.specs.Answer.{Gives}
use Rattle.kr_ghost_table.proofs.Bounds.{all_heirs}
use Rattle.kr_ghost_table.proofs.Deletes.{delete_alike, delete_nothing}

rows_good : (modes : List (List ℕ)) (b c r : Data) → content_faults Ghosts modes b c r ≡ [] → row_faults Ghosts modes (members_of r) ≡ []
rows_good modes b c r content =
    let p1 = both_empty (entry_faults modes (members_of b)) _ content in
    let p2 = both_empty (missing_faults modes b) _ p1.1 in
    let p3 = both_empty (held_faults modes (members_of c)) _ p2.1 in
    let p4 = both_empty (missing_pairs modes modes c) (row_faults Ghosts modes (members_of r)) p3.1 in
    p4.1

hit_sound : (m : ℕ) (b : Bool) (c n : Request) → asks_mode m c ≡ true → asks_mode m n ≡ true → (asks_mode m (unwrap_or (current_of (if b then Some (record { current = c; next = n }) else None)) None) ≡ true)
    × (asks_mode m (next_of (if b then Some (record { current = c; next = n }) else None)) ≡ true)
hit_sound m true c n h k = (h, k)
hit_sound m false c n h k = (refl, refl)

-- what an insert of a present key requests is a mode
hits_sound : (modes : List (List ℕ)) (r : Data) → row_faults Ghosts modes (members_of r) ≡ []
    → (asks_mode (length modes) (unwrap_or (current_of (sides_in modes r (codes "insert-hit"))) None) ≡ true) × (asks_mode (length modes) (next_of (sides_in modes r (codes "insert-hit"))) ≡ true)
hits_sound modes r rows =
    hit_sound (length modes) (is_some (get (codes "insert-hit") r)) (asked modes (clauses_of r (codes "insert-hit") (codes "current")) (codes "none"))
    (asked modes (clauses_of r (codes "insert-hit") (codes "next")) (codes "none")) (row_good Ghosts modes (codes "insert-hit") (codes "current") (codes "none") r rows)
    (row_good Ghosts modes (codes "insert-hit") (codes "next") (codes "none") r rows)

given_sound : (m : ℕ) (b : Bool) (r : Request) → asks_mode m r ≡ true → asks_mode m (unwrap_or (if b then Some r else None) None) ≡ true
given_sound m true r h = h
given_sound m false r h = refl

row_sound : (modes : List (List ℕ)) (r : Data) (row side : List ℕ) → row_faults Ghosts modes (members_of r) ≡ [] → asks_mode (length modes) (unwrap_or (row_in modes r row side) None) ≡ true
row_sound modes r row side rows = given_sound (length modes) (is_some (get row r)) (asked modes (clauses_of r row side) (codes "none")) (row_good Ghosts modes row side (codes "none") r rows)

-- what a vain step requests is a mode
vain_sound : (modes : List (List ℕ)) (r : Data) → row_faults Ghosts modes (members_of r) ≡ [] → (v : Vain) → asks_mode (length modes) (unwrap_or (vain_row (vain_rows_in modes r) v) None) ≡ true
vain_sound modes r rows InsertHit = (hits_sound modes r rows).0
vain_sound modes r rows DeleteMiss = row_sound modes r (codes "delete-miss") (codes "next") rows
vain_sound modes r rows UpdateMiss = row_sound modes r (codes "update-miss") (codes "next") rows

-- a document whose faults are in its heirs at most gives a table
pub table_sound : (d : Data) → table_document_faults d ≡ [] → IsGhostTable (table_of d)
table_sound d none =
    let p1 = both_empty (format_faults (integer_in (codes "format") d)) _ none in
    let p2 = both_empty (name_faults (members_of d)) _ p1.1 in
    let p3 = both_empty (delete_faults d) _ p2.1 in
    let p4 = both_empty (list_faults (codes "modes") d) _ p3.1 in
    let p5 = both_empty (table_faults (codes "compatible") d) _ p4.1 in
    let p6 = both_empty (table_faults (codes "convert") d) _ p5.1 in
    let p7 = both_empty (table_faults (codes "rules") d) _ p6.1 in
    let p8 = both_empty (purge_faults d) _ p7.1 in
    let p9 = both_empty (count_faults (items_len (items_in (codes "modes") d))) _ p8.1 in
    let p10 = both_empty (mode_faults 0 [] (items_in (codes "modes") d)) _ p9.1 in
    let b = data_in (codes "compatible") d in
    let c = data_in (codes "convert") d in
    let r = data_in (codes "rules") d in
    let rows = rows_good (modes_in d) b c r p10.1 in
    record {
      table = sound Ghosts true (items_in (codes "modes") d) b c r p9.0 p10.0 p10.1;
      updates = refl;
      delete_current = delete_alike (modes_in d) r rows;
      delete_next = delete_nothing (modes_in d) r rows;
      revive = row_good Ghosts (modes_in d) (codes "revive") (codes "current") (codes "none") r rows;
      revive_next = row_good Ghosts (modes_in d) (codes "revive") (codes "next") (codes "none") r rows;
      vain = vain_sound (modes_in d) r rows;
      insert_hit_next = (hits_sound (modes_in d) r rows).1;
      heirs = all_heirs (modes_in d) (data_in (codes "purge") d) (as_table (data_in (codes "purge") d));
    }

-- the members of a document are what its table is made of
pub table_seen : (d : Data) (names : List (List ℕ)) (b c r p : Data) → modes_in d ≡ names → data_in (codes "compatible") d ≡ b → data_in (codes "convert") d ≡ c → data_in (codes "rules") d ≡ r
    → data_in (codes "purge") d ≡ p → table_of d ≡ table_of_members names b c r p
table_seen d names b c r p h1 h2 h3 h4 h5 =
    ap (λ z. table_of_members z (data_in (codes "compatible") d) (data_in (codes "convert") d) (data_in (codes "rules") d) (data_in (codes "purge") d)) h1
    ∙ (ap (λ z. table_of_members names z (data_in (codes "convert") d) (data_in (codes "rules") d) (data_in (codes "purge") d)) h2
    ∙ (ap (λ z. table_of_members names b z (data_in (codes "rules") d) (data_in (codes "purge") d)) h3
    ∙ (ap (λ z. table_of_members names b c z (data_in (codes "purge") d)) h4
    ∙ ap (λ z. table_of_members names b c r z) h5)))

pub members_sound : (d : Data) (names : List (List ℕ)) (b c r p : Data) → table_document_faults d ≡ [] → modes_in d ≡ names → data_in (codes "compatible") d ≡ b → data_in (codes "convert") d ≡ c
    → data_in (codes "rules") d ≡ r → data_in (codes "purge") d ≡ p → IsGhostTable (table_of_members names b c r p)
members_sound d names b c r p none h1 h2 h3 h4 h5 = subst IsGhostTable (table_seen d names b c r p h1 h2 h3 h4 h5) (table_sound d none)

-- what is told of a document --

mode_told_at : (o : Option of_table.Fault) (d : Data) (ds : Items) (b c r : Data) → format_faults (integer_in (codes "format") d) ≡ [] → name_faults (members_of d) ≡ [] → delete_faults d ≡ []
    → list_in (codes "modes") d ≡ Some ds → get (codes "compatible") d ≡ Some b → is_some (as_table b) ≡ true → get (codes "convert") d ≡ Some c → is_some (as_table c) ≡ true
    → get (codes "rules") d ≡ Some r → is_some (as_table r) ≡ true → purge_faults d ≡ [] → count_faults (items_len ds) ≡ []
    → IfSome o (λ f. first (mode_faults 0 [] ds) ≡ Some f) → IfSome o (λ f. first (table_document_faults d) ≡ Some f)
mode_told_at None d ds b c r f n e m gb ib gc ic gr ir p count h = tt
mode_told_at (Some x) d ds b c r f n e m gb ib gc ic gr ir p count h =
    let told = first_append (mode_faults 0 [] ds) (content_faults Ghosts (names_of ds) b c r) x h in
    rw (f, n, e, m, gb, ib, gc, ic, gr, ir, p, count, told)

-- the first name that no mode may have
pub names_told : (e : TableFault) (d : Data) (ds : Items) (b c r : Data) → format_faults (integer_in (codes "format") d) ≡ [] → name_faults (members_of d) ≡ [] → delete_faults d ≡ []
    → list_in (codes "modes") d ≡ Some ds → get (codes "compatible") d ≡ Some b → is_some (as_table b) ≡ true → get (codes "convert") d ≡ Some c → is_some (as_table c) ≡ true
    → get (codes "rules") d ≡ Some r → is_some (as_table r) ≡ true → purge_faults d ≡ [] → count_faults (items_len ds) ≡ []
    → of_table.Tells e (mode_faults 0 [] ds) → of_table.Tells e (table_document_faults d)
names_told e d ds b c r f n l m gb ib gc ic gr ir p count h = mode_told_at (of_table.fault_of e) d ds b c r f n l m gb ib gc ic gr ir p count h

judged_first : (d : Data) (f : Fault) → first (faults d) ≡ Some f → judged d ≡ Err f
judged_first d f h = ap (λ o. unless_faulty o (table_of d)) h

faults_left : (d : Data) (names : List (List ℕ)) (p : Data) → table_document_faults d ≡ [] → modes_in d ≡ names → data_in (codes "purge") d ≡ p → faults d ≡ heir_faults names p
faults_left d names p none h k =
    ap (λ fs. map table fs ++ heir_faults (modes_in d) (data_in (codes "purge") d)) none
    ∙ (ap (λ z. heir_faults z (data_in (codes "purge") d)) h ∙ ap (λ z. heir_faults names z) k)

heir_told_at : (o : Option Fault) (d : Data) (fs : List Fault) → faults d ≡ fs → IfSome o (λ f. first fs ≡ Some f) → IfSome o (λ f. judged d ≡ Err f)
heir_told_at None d fs same h = tt
heir_told_at (Some f) d fs same h = judged_first d f (ap first same ∙ h)

-- the first fault of the heirs
pub heir_told : (e : GhostTableFault) (d : Data) (names : List (List ℕ)) (p : Data) → table_document_faults d ≡ [] → modes_in d ≡ names → data_in (codes "purge") d ≡ p
    → Tells e (heir_faults names p) → Gives (Err e) (judged d)
heir_told e d names p none h k told = heir_told_at (fault_of e) d (heir_faults names p) (faults_left d names p none h k) told

-- no fault
pub judged_whole : (d : Data) (x : GhostData) (names : List (List ℕ)) (b c r p : Data) → table_document_faults d ≡ [] → modes_in d ≡ names → data_in (codes "compatible") d ≡ b
    → data_in (codes "convert") d ≡ c → data_in (codes "rules") d ≡ r → data_in (codes "purge") d ≡ p → heir_faults names p ≡ [] → x ≡ table_of_members names b c r p → judged d ≡ Ok x
judged_whole d x names b c r p none h1 h2 h3 h4 h5 heirs made =
    ap (λ fs. unless_faulty (first fs) (table_of d)) (faults_left d names p none h1 h5 ∙ heirs)
    ∙ ap Ok (table_seen d names b c r p h1 h2 h3 h4 h5 ∙ sym made)
