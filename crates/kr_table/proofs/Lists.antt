-- Lengths, first faults and documents that are none.
use Rattle.std.proofs.Common.{◌≡◌, ℕ, ◌&&◌, codes, Bool, length, List, [], ◌∷◌, ◌++◌, Option, Some, None, Err, true, false, refl, arith, is_some, option_map, Bor}
use Rattle.std.specs.Prelude.{IsUtf8, IfSome, if◌then◌else◌}
use Rattle.std.specs.Str.{is_utf8}
use Rattle.std.proofs.lemmas.Str.{IsUtf8-from_is_utf8}
use Rattle.toml.specs.View.{view, items_view}
use Rattle.toml.specs.declared.value.Value.{Value}
use Rattle.toml.specs.Data.{Data, Members, member, as_array, as_table}
use Rattle.toml.specs.Parse.{parse_document}
use Rattle.kr_model.specs.Firsts.{first}
use Rattle.kr_table.specs.declared.rows.Rows.{Rows}
use Rattle.kr_table.specs.DocumentFaults.{clauses_faults, is_row, is_side, row_faults, side_faults}
use Rattle.kr_table.specs.Faults.{Fault, Tells, fault_of, not_toml, rule}
use Rattle.kr_table.specs.Members.{items_len, items_within, members_of}
use Rattle.kr_table.specs.Reading.{reading_of, document}
use Rattle.kr_table.specs.declared.faults.TableFault.{TableFault}

pub items_len-items_view : (vs : List Value) → items_len (items_view vs) ≡ length vs
items_len-items_view [] = refl
items_len-items_view (v ∷ vs) = let e : items_len (items_view vs) ≡ length vs = items_len-items_view vs in omega arith

pub is_some_seen : (r : Option (Bor Value)) → is_some r ≡ is_some (option_map (λ x. view x.now) r)
is_some_seen None = refl
is_some_seen (Some x) = refl

pub first_append : (fs gs : List Fault) (f : Fault) → first fs ≡ Some f → first (fs ++ gs) ≡ Some f
first_append [] gs f h = cc
first_append (g ∷ fs) gs f h = h

tells_first : (o : Option Fault) (fs gs : List Fault) → IfSome o (λ f. first fs ≡ Some f) → IfSome o (λ f. first (fs ++ gs) ≡ Some f)
tells_first None fs gs h = tt
tells_first (Some f) fs gs h = first_append fs gs f h

pub tells_more : (e : TableFault) (fs gs : List Fault) → Tells e fs → Tells e (fs ++ gs)
tells_more e fs gs h = tells_first (fault_of e) fs gs h

and_false : (b : Bool) → (b && false) ≡ false
and_false true = refl
and_false false = refl

-- a row that is no table is told before the rows after it
pub row_told : (r : Rows) (modes : List (List ℕ)) (row : List ℕ) (d : Data) (ms : Members) (e : TableFault) → as_table d ≡ None → Tells e (rule (codes "rules." ++ row) ∷ [])
    → Tells e (row_faults r modes (member row d ms))
row_told r modes row d ms e none h = rw (none, and_false (is_row r row)) (tells_more e (rule (codes "rules." ++ row) ∷ []) (side_faults r modes row (members_of d) ++ row_faults r modes ms) h)

-- a side that is no array is told before the sides after it
pub side_told : (r : Rows) (modes : List (List ℕ)) (row side : List ℕ) (d : Data) (ms : Members) (e : TableFault) → as_array d ≡ None → Tells e (rule (codes "rules." ++ row ++ codes "." ++ side) ∷ [])
    → Tells e (side_faults r modes row (member side d ms))
side_told r modes row side d ms e none h =
    rw (none, and_false (is_side r row side)) (tells_more e (rule (codes "rules." ++ row ++ codes "." ++ side) ∷ []) (clauses_faults r modes row side 0 (items_within d) ++ side_faults r modes row ms) h)

pub no_document : (bytes : List ℕ) → (IsUtf8 bytes → parse_document bytes ≡ None) → reading_of (document bytes) ≡ Err not_toml
no_document bytes h =
    elim (is_utf8 bytes) as (λ b. is_utf8 bytes ≡ b → reading_of (if b then parse_document bytes else None) ≡ Err not_toml) [
      | true ↦ λ e. rw (h (IsUtf8-from_is_utf8 bytes e))
      | false ↦ λ e. refl
    ] refl
