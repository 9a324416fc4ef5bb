-- The faults of a document of format 3, in the order in which they are told.
use Rattle.std.specs.Prelude.{ℕ, ℤ, pos, ◌&&◌, ◌||◌, codes, List, [], ◌∷◌, ◌++◌, map, Bool, false, bytes_eq, Option, Some, None, is_some}
use Rattle.std.specs.Ordering.{int_eq}
use Rattle.toml.specs.Data.{Data, Members, no_members, member, get, as_str, as_table}
use Rattle.kr_model.specs.Firsts.{unless}
use Rattle.kr_table.specs.declared.rows.Rows.TheVariants.{Ghosts}
use Rattle.kr_table.specs.Faults as of_table
use Rattle.kr_table.specs.Faults.{format, field}
use Rattle.kr_table.specs.Members.{integer_in, text_in, items_in, data_in, members_of, items_len, modes_in}
use Rattle.kr_table.specs.DocumentFaults as of_table_document
use Rattle.kr_table.specs.DocumentFaults.{list_faults, table_faults, count_faults, mode_faults, content_faults, is_mode, is_own_text}
use Rattle.kr_ghost_table.specs.Faults.{Fault, table, purge}

-- The members --

-- The faults of the member `format`, as a whole number if it is one.
abbrev pub format_faults : Option ℤ → List of_table.Fault
format_faults None = field (codes "format") ∷ []
format_faults (Some z) = unless (int_eq z (pos 3)) format

-- Whether a table with ghosts has a member of this name.
abbrev pub is_member_name : List ℕ → Bool
is_member_name k = of_table_document.is_member_name k || bytes_eq k (codes "deletes") || bytes_eq k (codes "purge")

-- Each member whose name is unknown; the members of a document rise in the order of their bytes.
abbrev pub name_faults : Members → List of_table.Fault
name_faults no_members = []
name_faults (member k d ms) = unless (is_member_name k) (field k) ++ name_faults ms

-- Whether what was read is this word.
abbrev pub is_word : List ℕ → Option (List ℕ) → Bool
is_word word None = false
is_word word (Some text) = bytes_eq text word

-- A member `deletes` that doesn't say that deletes leave ghosts.
abbrev pub delete_faults : Data → List of_table.Fault
delete_faults d = unless (is_word (codes "ghosts") (text_in (codes "deletes") d)) (field (codes "deletes"))

-- Whether what stands at `purge` is the word `unlocked`, or a table.
abbrev pub is_purge : Option Data → Bool
is_purge None = false
is_purge (Some d) = is_some (as_table d) || is_word (codes "unlocked") (as_str d)

-- A member `purge` that is neither.
abbrev pub purge_faults : Data → List of_table.Fault
purge_faults d = unless (is_purge (get (codes "purge") d)) (field (codes "purge"))

-- The faults that a document of another format has too, each kind without regard to the others.
abbrev pub table_document_faults : Data → List of_table.Fault
table_document_faults d =
    format_faults (integer_in (codes "format") d)
    ++ (name_faults (members_of d)
    ++ (delete_faults d
    ++ (list_faults (codes "modes") d
    ++ (table_faults (codes "compatible") d
    ++ (table_faults (codes "convert") d
    ++ (table_faults (codes "rules") d
    ++ (purge_faults d
    ++ (count_faults (items_len (items_in (codes "modes") d))
    ++ (mode_faults 0 [] (items_in (codes "modes") d)
    ++ content_faults Ghosts (modes_in d) (data_in (codes "compatible") d) (data_in (codes "convert") d) (data_in (codes "rules") d))))))))))

-- The heirs --

-- The path of the heir of a mode.
abbrev pub heir_path : List ℕ → List ℕ
heir_path mode = codes "purge." ++ mode

-- Each entry of `purge` that isn't at the name of a mode, or isn't the name of a mode or `none`.
abbrev pub entry_faults : List (List ℕ) → Members → List Fault
entry_faults modes no_members = []
entry_faults modes (member k d ms) = unless (is_mode modes k && is_own_text modes (as_str d)) (purge (heir_path k)) ++ entry_faults modes ms

-- Each mode that has no entry in `purge`.
abbrev pub missing_faults : List (List ℕ) → Data → List Fault
missing_faults [] d = []
missing_faults (mode ∷ modes) d = unless (is_some (get mode d)) (purge (heir_path mode)) ++ missing_faults modes d

-- The faults of the entries, if `purge` is a table.
abbrev pub table_heir_faults : List (List ℕ) → Data → Option Members → List Fault
table_heir_faults modes d None = []
table_heir_faults modes d (Some ms) = entry_faults modes ms ++ missing_faults modes d

-- The faults of the entries of `purge`.
abbrev pub heir_faults : List (List ℕ) → Data → List Fault
heir_faults modes d = table_heir_faults modes d (as_table d)

-- The whole --

-- All faults of a document, each kind without regard to the others.
abbrev pub faults : Data → List Fault
faults d = map table (table_document_faults d) ++ heir_faults (modes_in d) (data_in (codes "purge") d)
