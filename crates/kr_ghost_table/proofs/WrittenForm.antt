-- The document that is written for a table with ghosts: how deep it is, and that it has no date.
use Rattle.std.proofs.Common.{◌≡◌, ℕ, suc, ◌≤◌, List, length, Option, Some, None, true, is_some, refl, ap, subst, arith, codes}
use Rattle.std.specs.Prelude.{pos, unwrap_or}
use Rattle.std.proofs.lemmas.Bool.{and_parts, and_from}
use Rattle.toml.specs.Data.{Data, string, integer, table, Members, no_members, member, depth, members_depth, has_valid_dates, members_have_valid_dates}
use Rattle.kr_table.specs.Tables.{Request}
use Rattle.kr_table.specs.Writing as of_table
use Rattle.kr_table.specs.Writing.{put, with_pairs, with_update, all_rows}
use Rattle.kr_table.proofs.WrittenForm as table_form
use Rattle.kr_ghost_table.specs.Tables.{GhostData, IsGhostTable, are_heirs, delete_of}
use Rattle.kr_ghost_table.specs.Writing.{purge_of, side_row, current_row, sides_row, with_vain, written}
use Rattle.kr_ghost_table.proofs.EveryMember.{EachMember, each_put, found}
use Rattle.kr_ghost_table.proofs.GivenRows.{each_vain}
use Rattle.kr_ghost_table.proofs.HeirsBack.{each_heir}

-- as the document of the table without ghosts --

-- an update has its row
with_update_put : (names : List (List ℕ)) (o : Option Request) (ms : Members) → is_some o ≡ true → with_update names o ms ≡ put (codes "update") (current_row names (unwrap_or o None)) ms
with_update_put names None ms h = cc
with_update_put names (Some r) ms h = refl

-- its rules, with the rows of deletes and of inserts of ghosts
abbrev rows_over : GhostData → Members → Members
rows_over x rules = put (codes "delete") (current_row x.table.modes.names (delete_of x.table)) (put (codes "revive") (sides_row x.table.modes.names x.revive x.revive_next) rules)

-- and with those of the vain steps
abbrev rules_over : GhostData → Members → Members
rules_over x rules = with_vain x.table.modes.names x.vain (rows_over x rules)

-- its members, with those of format 3
abbrev written_over : GhostData → Members → Members → Members
written_over x rules ms =
    put (codes "format") (integer (pos 3))
    (put (codes "deletes") (string (codes "ghosts"))
    (put (codes "purge") (purge_of x.table.modes.names x.purge)
    (put (codes "rules") (table (rules_over x rules)) ms)))

-- that is the document
same_document : (x : GhostData) → is_some x.table.update ≡ true → written_over x (of_table.written_rules x.table) (of_table.written x.table) ≡ written x
same_document x h = ap (λ rules. written_over x rules (of_table.written x.table)) (with_update_put x.table.modes.names x.table.update (all_rows x.table) h)

-- no deeper than this, and without a date --

abbrev HasForm : ℕ → List ℕ → Data → Type 0
HasForm n k d = (depth d ≤ n) × (has_valid_dates d ≡ true)

-- a table of such a form has such members, and the other way round
form_each : (n : ℕ) (ms : Members) → members_depth ms ≤ n → members_have_valid_dates ms ≡ true → EachMember (HasForm n) ms
form_each n no_members deep dates = tt
form_each n (member k d ms) deep dates =
    let p = and_parts (has_valid_dates d) (members_have_valid_dates ms) dates in
    ((omega arith, p.0), form_each n ms (omega arith) p.1)

each_form : (n : ℕ) (ms : Members) → EachMember (HasForm n) ms → (members_depth ms ≤ n) × (members_have_valid_dates ms ≡ true)
each_form n no_members each = (omega arith, refl)
each_form n (member k d ms) each =
    let p = each_form n ms each.1 in
    let here = each.0 in
    (omega (arith, here.0, p.0), and_from (has_valid_dates d) (members_have_valid_dates ms) here.1 p.1)

-- what is put there

row_form : (side : List ℕ) (names : List (List ℕ)) (r : Request) (k : List ℕ) → HasForm 79 k (side_row side names r)
row_form side names None k = (omega arith, refl)
row_form side names (Some (q, s)) k = (omega arith, refl)

sides_form : (names : List (List ℕ)) (c n : Request) (k : List ℕ) → HasForm 79 k (sides_row names c n)
sides_form names c None k = row_form (codes "current") names c k
sides_form names None (Some (q, s)) k = (omega arith, refl)
sides_form names (Some (q, s)) (Some (r, t)) k = (omega arith, refl)

purge_form : (names : List (List ℕ)) (o : Option (List ℕ)) (k : List ℕ) → are_heirs (length names) o ≡ true → HasForm 80 k (purge_of names o)
purge_form names None k sound = (omega arith, refl)
purge_form names (Some hs) k sound =
    let p = each_form 79 (with_pairs names names hs no_members) (each_heir (HasForm 79) names hs (λ q c m h. (omega arith, refl)) sound) in
    let deep : members_depth (with_pairs names names hs no_members) ≤ 79 = p.0 in
    (omega arith, p.1)

rules_form : (x : GhostData) (rules : Members) → EachMember (HasForm 79) rules → HasForm 80 (codes "rules") (table (rules_over x rules))
rules_form x rules each =
    let names = x.table.modes.names in
    let revive = sides_row names x.revive x.revive_next in
    let delete = current_row names (delete_of x.table) in
    let with_revive = each_put (HasForm 79) (codes "revive") revive rules (sides_form names x.revive x.revive_next (codes "revive")) each in
    let with_delete = each_put (HasForm 79) (codes "delete") delete (put (codes "revive") revive rules) (row_form (codes "current") names (delete_of x.table) (codes "delete")) with_revive in
    let with_all = each_vain (HasForm 79) names x.vain (rows_over x rules) (λ r e. sides_form names r.current r.next (codes "insert-hit")) (λ r e. row_form (codes "next") names r (codes "delete-miss"))
    (λ r e. row_form (codes "next") names r (codes "update-miss")) with_delete in
    let form = each_form 79 (rules_over x rules) with_all in
    let deep : members_depth (rules_over x rules) ≤ 79 = form.0 in
    (omega arith, form.1)

members_form : (x : GhostData) (rules ms : Members) → HasForm 80 (codes "purge") (purge_of x.table.modes.names x.purge) → HasForm 80 (codes "rules") (table (rules_over x rules)) → EachMember (HasForm 80) ms
    → EachMember (HasForm 80) (written_over x rules ms)
members_form x rules ms purge row each =
    let word : HasForm 80 (codes "deletes") (string (codes "ghosts")) = (omega arith, refl) in
    let format : HasForm 80 (codes "format") (integer (pos 3)) = (omega arith, refl) in
    let one = put (codes "rules") (table (rules_over x rules)) ms in
    let two = put (codes "purge") (purge_of x.table.modes.names x.purge) one in
    let three = put (codes "deletes") (string (codes "ghosts")) two in
    let each_one = each_put (HasForm 80) (codes "rules") (table (rules_over x rules)) ms row each in
    let each_two = each_put (HasForm 80) (codes "purge") (purge_of x.table.modes.names x.purge) one purge each_one in
    let each_three = each_put (HasForm 80) (codes "deletes") (string (codes "ghosts")) two word each_two in
    each_put (HasForm 80) (codes "format") (integer (pos 3)) three format each_three

-- the whole document
pub written_form : (x : GhostData) → IsGhostTable x → (members_depth (written x) ≤ 80) × (members_have_valid_dates (written x) ≡ true)
written_form x s =
    let old = of_table.written x.table in
    let rules = of_table.written_rules x.table in
    let each = form_each 80 old (table_form.written_depth x.table) (table_form.written_dates x.table) in
    let row : HasForm 80 (codes "rules") (table rules) = found (HasForm 80) (codes "rules") old each in
    let low : suc (members_depth rules) ≤ 80 = row.0 in
    let purge = purge_form x.table.modes.names x.purge (codes "purge") s.heirs in
    let new_row = rules_form x rules (form_each 79 rules (omega arith) row.1) in
    subst (λ ms. (members_depth ms ≤ 80) × (members_have_valid_dates ms ≡ true)) (same_document x s.updates) (each_form 80 (written_over x rules old) (members_form x rules old purge new_row each))
