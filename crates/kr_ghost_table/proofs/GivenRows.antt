-- Rows that a table may lack: what is read of them, what of the others, and that they have no faults.
use Rattle.std.proofs.Common.{◌≡◌, ℕ, List, [], true, false, true≢false, length, Option, Some, None, is_some, refl, sym, ap, subst, ◌∙◌, codes, if◌then◌else◌}
use Rattle.std.specs.Prelude.{bytes_eq, unwrap_or}
use Rattle.std.proofs.lemmas.Slice.Eq.{bytes_eq-Decides}
use Rattle.toml.specs.Data.{Data, array, table, Members, no_members, member, get_member}
use Rattle.kr_table.specs.declared.rows.Rows.TheVariants.{Ghosts}
use Rattle.kr_table.specs.Members.{items_in}
use Rattle.kr_table.specs.DocumentFaults.{is_row, is_side, row_faults, side_faults}
use Rattle.kr_table.specs.Tables.{Request, asks_mode}
use Rattle.kr_table.specs.Reading.{asked, asked_each, clauses_of, table_of_parts}
use Rattle.kr_table.specs.Writing.{plain_clauses}
use Rattle.kr_table.proofs.Puts.{get_put, get_put_other}
use Rattle.kr_table.proofs.ReadBack.{Distinct}
use Rattle.kr_table.proofs.ReadRest.{plain_back, plain_good}
use Rattle.kr_ghost_table.specs.declared.vain.Sides.{Sides}
use Rattle.kr_ghost_table.specs.declared.vain.VainRows.{VainRows}
use Rattle.kr_ghost_table.specs.Tables.{current_of, next_of}
use Rattle.kr_ghost_table.specs.Reading.{row_in, sides_in, vain_rows_in}
use Rattle.kr_ghost_table.specs.Writing.{side_row, next_row, both_or_current, sides_row, hit_row, with_row, with_vain}
use Rattle.kr_ghost_table.proofs.Deletes.{IsGoodRow, each_row}
use Rattle.kr_ghost_table.proofs.EveryMember.{EachMember, each_put}

-- what is read of the others --

apart : (k l : List ℕ) → bytes_eq k l ≡ false → k ≡ l → ⊥
apart k l e h = true≢false (sym ((bytes_eq-Decides k l).1 h) ∙ e)

-- what stands at another name
other_row : {A : Type 0} (k row : List ℕ) (made : A → Data) (o : Option A) (ms : Members) → bytes_eq k row ≡ false → get_member k (with_row row made o ms) ≡ get_member k ms
other_row k row made None ms e = refl
other_row k row made (Some r) ms e = get_put_other k row (made r) ms (apart k row e)

pub other_rows : (k : List ℕ) (names : List (List ℕ)) (v : VainRows) (ms : Members) → bytes_eq k (codes "insert-hit") ≡ false → bytes_eq k (codes "delete-miss") ≡ false → bytes_eq k (codes "update-miss") ≡ false
    → get_member k (with_vain names v ms) ≡ get_member k ms
other_rows k names v ms e f g =
    let one = with_row (codes "insert-hit") (hit_row names) v.insert_hit ms in
    let two = with_row (codes "delete-miss") (next_row names) v.delete_miss one in
    other_row k (codes "update-miss") (next_row names) v.update_miss two g
    ∙ (other_row k (codes "delete-miss") (next_row names) v.delete_miss one f ∙ other_row k (codes "insert-hit") (hit_row names) v.insert_hit ms e)

each_over : (names : List (List ℕ)) (v : VainRows) (ms : Members) (row side : List ℕ) → get_member row (with_vain names v ms) ≡ get_member row ms
    → asked_each names (clauses_of (table (with_vain names v ms)) row side) ≡ asked_each names (clauses_of (table ms) row side)
each_over names v ms row side e = ap (λ o. asked_each names (items_in side (unwrap_or o (table no_members)))) e

-- the table as one without ghosts
pub parts_over : (names : List (List ℕ)) (b c : Data) (v : VainRows) (ms : Members) → table_of_parts true names b c (table (with_vain names v ms)) ≡ table_of_parts true names b c (table ms)
parts_over names b c v ms =
    let insert = other_rows (codes "insert") names v ms refl refl refl in
    let delete = other_rows (codes "delete") names v ms refl refl refl in
    rw (
      other_rows (codes "fetch-hit") names v ms refl refl refl,
      other_rows (codes "fetch-miss") names v ms refl refl refl,
      other_rows (codes "scan-key") names v ms refl refl refl,
      other_rows (codes "scan-stop") names v ms refl refl refl,
      other_rows (codes "update") names v ms refl refl refl,
      each_over names v ms (codes "insert") (codes "current") insert,
      each_over names v ms (codes "insert") (codes "next") insert,
      each_over names v ms (codes "delete") (codes "current") delete,
      each_over names v ms (codes "delete") (codes "next") delete,
    )

-- what is read of them --

-- by what stands at the name of the row
same_row : (names : List (List ℕ)) (row side : List ℕ) (ms ls : Members) → get_member row ms ≡ get_member row ls → row_in names (table ms) row side ≡ row_in names (table ls) row side
same_row names row side ms ls e = ap (λ o. if is_some o then Some (asked names (items_in side (unwrap_or o (table no_members))) (codes "none")) else None) e

row_back : (names : List (List ℕ)) (row side : List ℕ) (o : Option Request) (ms : Members) → Distinct names → asks_mode (length names) (unwrap_or o None) ≡ true → get_member row ms ≡ None
    → row_in names (table (with_row row (side_row side names) o ms)) row side ≡ o
row_back names row side None ms d h e = rw e
row_back names row side (Some r) ms d h e =
    rw (get_put row (side_row side names r) ms, get_put side (array (plain_clauses names r)) no_members, plain_back names r (codes "none") d h)

-- at each side of a row that has the side `next` only where something is requested there
pub current_asked : (names : List (List ℕ)) (c n : Request) → Distinct names → asks_mode (length names) c ≡ true → asked names (items_in (codes "current") (sides_row names c n)) (codes "none") ≡ c
current_asked names c None d h = plain_back names c (codes "none") d h
current_asked names c (Some r) d h = plain_back names c (codes "none") d h

pub next_asked : (names : List (List ℕ)) (c n : Request) → Distinct names → asks_mode (length names) n ≡ true → asked names (items_in (codes "next") (sides_row names c n)) (codes "none") ≡ n
next_asked names c None d h = refl
next_asked names c (Some r) d h = plain_back names (Some r) (codes "none") d h

same_sides : (names : List (List ℕ)) (row : List ℕ) (ms ls : Members) → get_member row ms ≡ get_member row ls → sides_in names (table ms) row ≡ sides_in names (table ls) row
same_sides names row ms ls e =
    ap (λ o. if is_some o
    then Some (record { current = asked names (items_in (codes "current") (unwrap_or o (table no_members))) (codes "none"); next = asked names (items_in (codes "next") (unwrap_or o (table no_members))) (codes "none") })
    else None) e

both_same : (s : Sides) (c n : Request) → c ≡ s.current → n ≡ s.next → ◌≡◌ {A = Option Sides} (Some (record { current = c; next = n })) (Some s)
both_same s c n e f = rw (e, f)

sides_back : (names : List (List ℕ)) (row : List ℕ) (o : Option Sides) (ms : Members) → Distinct names → asks_mode (length names) (unwrap_or (current_of o) None) ≡ true
    → asks_mode (length names) (next_of o) ≡ true → get_member row ms ≡ None → sides_in names (table (with_row row (hit_row names) o ms)) row ≡ o
sides_back names row None ms d h k e = rw e
sides_back names row (Some s) ms d h k e =
    ap (λ o. if is_some o
    then Some (record { current = asked names (items_in (codes "current") (unwrap_or o (table no_members))) (codes "none"); next = asked names (items_in (codes "next") (unwrap_or o (table no_members))) (codes "none") })
    else None) (get_put row (hit_row names s) ms)
    ∙ both_same s (asked names (items_in (codes "current") (hit_row names s)) (codes "none")) (asked names (items_in (codes "next") (hit_row names s)) (codes "none"))
    (current_asked names s.current s.next d h) (next_asked names s.current s.next d k)

same_rows : (v : VainRows) (a : Option Sides) (b c : Option Request) → a ≡ v.insert_hit → b ≡ v.delete_miss → c ≡ v.update_miss → ◌≡◌ {A = VainRows} (record { insert_hit = a; delete_miss = b; update_miss = c }) v
same_rows v a b c e f g = rw (e, f, g)

-- the rows of the vain steps, behind rows that are none of these
pub vain_back : (names : List (List ℕ)) (v : VainRows) (ms : Members) → Distinct names → asks_mode (length names) (unwrap_or (current_of v.insert_hit) None) ≡ true → asks_mode (length names) (next_of v.insert_hit) ≡ true → asks_mode (length names) (unwrap_or v.delete_miss None) ≡ true
    → asks_mode (length names) (unwrap_or v.update_miss None) ≡ true → get_member (codes "insert-hit") ms ≡ None → get_member (codes "delete-miss") ms ≡ None → get_member (codes "update-miss") ms ≡ None
    → vain_rows_in names (table (with_vain names v ms)) ≡ v
vain_back names v ms d h0 h1 h2 h3 e1 e2 e3 =
    let hit = codes "insert-hit" in
    let delete = codes "delete-miss" in
    let update = codes "update-miss" in
    let one = with_row hit (hit_row names) v.insert_hit ms in
    let two = with_row delete (next_row names) v.delete_miss one in
    let all = with_vain names v ms in
    let skip_hit = λ (k : List ℕ) (e : bytes_eq k hit ≡ false). other_row k hit (hit_row names) v.insert_hit ms e in
    let skip_delete = λ (k : List ℕ) (e : bytes_eq k delete ≡ false). other_row k delete (next_row names) v.delete_miss one e in
    let skip_update = λ (k : List ℕ) (e : bytes_eq k update ≡ false). other_row k update (next_row names) v.update_miss two e in
    let hit_back = same_sides names hit all one (skip_update hit refl ∙ skip_delete hit refl) ∙ sides_back names hit v.insert_hit ms d h0 h1 e1 in
    let delete_back = same_row names delete (codes "next") all two (skip_update delete refl) ∙ row_back names delete (codes "next") v.delete_miss one d h2 (skip_hit delete refl ∙ e2) in
    let update_back = row_back names update (codes "next") v.update_miss two d h3 (skip_delete update refl ∙ (skip_hit update refl ∙ e3)) in
    same_rows v (sides_in names (table all) hit) (row_in names (table all) delete (codes "next")) (row_in names (table all) update (codes "next")) hit_back delete_back update_back

-- what holds of each row --

each_given : {A : Type 0} (P : List ℕ → Data → Type 0) (row : List ℕ) (made : A → Data) (o : Option A) (ms : Members) → ((r : A) → o ≡ Some r → P row (made r)) → EachMember P ms → EachMember P (with_row row made o ms)
each_given P row made None ms h each = each
each_given P row made (Some r) ms h each = each_put P row (made r) ms (h r refl) each

pub each_vain : (P : List ℕ → Data → Type 0) (names : List (List ℕ)) (v : VainRows) (ms : Members) → ((s : Sides) → v.insert_hit ≡ Some s → P (codes "insert-hit") (hit_row names s))
    → ((r : Request) → v.delete_miss ≡ Some r → P (codes "delete-miss") (next_row names r)) → ((r : Request) → v.update_miss ≡ Some r → P (codes "update-miss") (next_row names r)) → EachMember P ms
    → EachMember P (with_vain names v ms)
each_vain P names v ms h1 h2 h3 each =
    let one = with_row (codes "insert-hit") (hit_row names) v.insert_hit ms in
    let two = with_row (codes "delete-miss") (next_row names) v.delete_miss one in
    let each_one = each_given P (codes "insert-hit") (hit_row names) v.insert_hit ms h1 each in
    let each_two = each_given P (codes "delete-miss") (next_row names) v.delete_miss one h2 each_one in
    each_given P (codes "update-miss") (next_row names) v.update_miss two h3 each_two

-- no faults --

no_row_fault : (modes : List (List ℕ)) (ms : Members) → EachMember (IsGoodRow modes) ms → row_faults Ghosts modes ms ≡ []
no_row_fault modes no_members each = refl
no_row_fault modes (member row d ms) each = rw (each.0.0, each.0.1, no_row_fault modes ms each.1)

given_good : (names : List (List ℕ)) (row side : List ℕ) (o : Option Request) → is_row Ghosts row ≡ true → is_side Ghosts row side ≡ true → asks_mode (length names) (unwrap_or o None) ≡ true
    → (r : Request) → o ≡ Some r → IsGoodRow names row (side_row side names r)
given_good names row side o is has h r e =
    let asks : asks_mode (length names) r ≡ true = subst (λ y. asks_mode (length names) (unwrap_or y None) ≡ true) e h in
    (rw is, rw (has, plain_good Ghosts names row side r asks))

pub sides_good : (names : List (List ℕ)) (row : List ℕ) (c n : Request) → is_side Ghosts row (codes "current") ≡ true → is_side Ghosts row (codes "next") ≡ true → asks_mode (length names) c ≡ true
    → asks_mode (length names) n ≡ true → side_faults Ghosts names row (both_or_current names c n) ≡ []
sides_good names row c None a b h k = rw (a, plain_good Ghosts names row (codes "current") c h)
sides_good names row c (Some r) a b h k = rw (a, b, plain_good Ghosts names row (codes "current") c h, plain_good Ghosts names row (codes "next") (Some r) k)

hit_good : (names : List (List ℕ)) (o : Option Sides) → asks_mode (length names) (unwrap_or (current_of o) None) ≡ true → asks_mode (length names) (next_of o) ≡ true
    → (s : Sides) → o ≡ Some s → IsGoodRow names (codes "insert-hit") (hit_row names s)
hit_good names o h k s e =
    let current : asks_mode (length names) s.current ≡ true = subst (λ y. asks_mode (length names) (unwrap_or (current_of y) None) ≡ true) e h in
    let next : asks_mode (length names) s.next ≡ true = subst (λ y. asks_mode (length names) (next_of y) ≡ true) e k in
    (refl, sides_good names (codes "insert-hit") s.current s.next refl refl current next)

-- rows without faults, with those of the vain steps
pub vain_good : (names : List (List ℕ)) (v : VainRows) (ms : Members) → asks_mode (length names) (unwrap_or (current_of v.insert_hit) None) ≡ true → asks_mode (length names) (next_of v.insert_hit) ≡ true → asks_mode (length names) (unwrap_or v.delete_miss None) ≡ true
    → asks_mode (length names) (unwrap_or v.update_miss None) ≡ true → row_faults Ghosts names ms ≡ [] → row_faults Ghosts names (with_vain names v ms) ≡ []
vain_good names v ms h0 h1 h2 h3 good =
    no_row_fault names (with_vain names v ms)
    (each_vain (IsGoodRow names) names v ms
    (hit_good names v.insert_hit h0 h1)
    (given_good names (codes "delete-miss") (codes "next") v.delete_miss refl refl h2)
    (given_good names (codes "update-miss") (codes "next") v.update_miss refl refl h3)
    (each_row names ms good))
