-- The faults of a document, in the order in which they are told.
use Rattle.std.specs.Prelude.{ℕ, ℤ, pos, ◌+◌, ◌&&◌, ◌||◌, codes, decimal, List, [], ◌∷◌, ◌++◌, length, Bool, true, false, not, nat_lt, bytes_eq, Option, Some, None, is_some}
use Rattle.std.specs.Ordering.{int_eq}
use Rattle.toml.specs.Data.{Data, Items, no_items, item, Members, no_members, member, get, as_str, as_array, as_table}
use Rattle.kr_model.specs.Firsts.{unless}
use Rattle.kr_table.specs.declared.rows.Rows.{Rows}
use Rattle.kr_table.specs.declared.rows.Rows.TheVariants.{Plain, Updates, Ghosts}
use Rattle.kr_table.specs.Faults.{Fault, format, field, mode_count, mode_name, compatible, convert, rule, own_not_allowed}
use Rattle.kr_table.specs.Members.{integer_in, list_in, table_in, text_in, items_in, data_in, pair_in, members_of, items_within, items_len, with_some, modes_in}

-- The document --

-- The faults of the member `format`, as a whole number if it is one.
abbrev pub format_faults : Option ℤ → List Fault
format_faults None = field (codes "format") ∷ []
format_faults (Some z) = unless (int_eq z (pos 1) || int_eq z (pos 2)) format

-- Whether the format is 2.
abbrev pub is_two : Option ℤ → Bool
is_two None = false
is_two (Some z) = int_eq z (pos 2)

-- Whether the document offers updates: its format is 2.
abbrev pub updates_in : Data → Bool
updates_in d = is_two (integer_in (codes "format") d)

-- Whether a table has a member of this name.
abbrev pub is_member_name : List ℕ → Bool
is_member_name k = bytes_eq k (codes "format") || bytes_eq k (codes "modes") || bytes_eq k (codes "compatible") || bytes_eq k (codes "convert") || bytes_eq k (codes "rules")

-- Each member whose name is unknown; the members of a document rise in the order of their bytes.
abbrev pub name_faults : Members → List Fault
name_faults no_members = []
name_faults (member k d ms) = unless (is_member_name k) (field k) ++ name_faults ms

-- A member that is no array.
abbrev pub list_faults : List ℕ → Data → List Fault
list_faults name d = unless (is_some (list_in name d)) (field name)

-- A member that is no table.
abbrev pub table_faults : List ℕ → Data → List Fault
table_faults name d = unless (is_some (table_in name d)) (field name)

-- The names of the modes --

-- A number of modes that isn't 1 to 15.
abbrev pub count_faults : ℕ → List Fault
count_faults n = unless (nat_lt 0 n && nat_lt n 16) mode_count

-- Whether one of these modes has the name.
abbrev pub is_mode : List (List ℕ) → List ℕ → Bool
is_mode [] name = false
is_mode (mode ∷ modes) name = bytes_eq mode name || is_mode modes name

-- Whether all bytes are from space to tilde.
abbrev pub is_printable : List ℕ → Bool
is_printable [] = true
is_printable (b ∷ bs) = (nat_lt 31 b && nat_lt b 127) && is_printable bs

-- Whether a mode may have the name: 1 to 24 bytes from space to tilde, not `none`, and none of the names before it.
abbrev pub is_good : List (List ℕ) → List ℕ → Bool
is_good before name = nat_lt 0 (length name) && nat_lt (length name) 25 && is_printable name && not (bytes_eq name (codes "none")) && not (is_mode before name)

-- Whether an element is text that a mode may have for its name.
abbrev pub is_good_text : List (List ℕ) → Option (List ℕ) → Bool
is_good_text before None = false
is_good_text before (Some name) = is_good before name

-- Each element of `modes`, from an index on, that is no name of a mode after the names before it.
abbrev pub mode_faults : ℕ → List (List ℕ) → Items → List Fault
mode_faults i before no_items = []
mode_faults i before (item d ds) = unless (is_good_text before (as_str d)) (mode_name i) ++ mode_faults (i + 1) (before ++ with_some (as_str d)) ds

-- Whether what was read is the name of a mode.
abbrev pub is_mode_text : List (List ℕ) → Option (List ℕ) → Bool
is_mode_text modes None = false
is_mode_text modes (Some name) = is_mode modes name

-- Which modes stand together --

-- Whether each element is the name of a mode.
abbrev pub all_modes : List (List ℕ) → Items → Bool
all_modes modes no_items = true
all_modes modes (item d ds) = is_mode_text modes (as_str d) && all_modes modes ds

-- Whether an entry is an array of names of modes, at the name of a mode.
abbrev pub is_entry : List (List ℕ) → List ℕ → Option Items → Bool
is_entry modes name None = false
is_entry modes name (Some ds) = is_mode modes name && all_modes modes ds

-- Each entry of `compatible` that is none.
abbrev pub entry_faults : List (List ℕ) → Members → List Fault
entry_faults modes no_members = []
entry_faults modes (member k d ms) = unless (is_entry modes k (as_array d)) (compatible (codes "compatible." ++ k)) ++ entry_faults modes ms

-- Each mode that has no entry in `compatible`.
abbrev pub missing_faults : List (List ℕ) → Data → List Fault
missing_faults [] d = []
missing_faults (mode ∷ modes) d = unless (is_some (get mode d)) (compatible (codes "compatible." ++ mode)) ++ missing_faults modes d

-- Conversions --

-- The path of a pair of a held mode and a requested one.
abbrev pub pair_path : List ℕ → List ℕ → List ℕ
pair_path h q = codes "convert." ++ h ++ codes "." ++ q

-- Each pair of held mode h whose requested mode is no mode, or whose value isn't the name of one.
abbrev pub pair_faults : List (List ℕ) → List ℕ → Members → List Fault
pair_faults modes h no_members = []
pair_faults modes h (member q d ms) = unless (is_mode modes q && is_mode_text modes (as_str d)) (convert (pair_path h q)) ++ pair_faults modes h ms

-- Each entry of `convert` that is no table at the name of a mode, and the pairs in it, before the next entry.
abbrev pub held_faults : List (List ℕ) → Members → List Fault
held_faults modes no_members = []
held_faults modes (member h d ms) =
    unless (is_mode modes h && is_some (as_table d)) (convert (codes "convert." ++ h))
    ++ (pair_faults modes h (members_of d) ++ held_faults modes ms)

-- Each of the requested modes that h has no pair for.
abbrev pub missing_of : List ℕ → List (List ℕ) → Data → List Fault
missing_of h [] d = []
missing_of h (q ∷ qs) d = unless (is_some (pair_in d h q)) (convert (pair_path h q)) ++ missing_of h qs d

-- Each pair that isn't there, by held modes and then by requested ones.
abbrev pub missing_pairs : List (List ℕ) → List (List ℕ) → Data → List Fault
missing_pairs [] modes d = []
missing_pairs (h ∷ hs) modes d = missing_of h modes d ++ missing_pairs hs modes d

-- Rules --

-- The rows of a table whose deleted keys go at once, by whether it offers updates.
abbrev pub rows_of : Bool → Rows
rows_of false = Plain
rows_of true = Updates

-- Whether a table with these rows offers updates.
abbrev pub has_updates : Rows → Bool
has_updates Plain = false
has_updates Updates = true
has_updates Ghosts = true

-- Whether deletes leave ghosts in a table with these rows.
abbrev pub has_ghosts : Rows → Bool
has_ghosts Plain = false
has_ghosts Updates = false
has_ghosts Ghosts = true

-- Whether the row goes by the own mode on the next name: an insert, and a delete that leaves no ghost. Such a row has both sides, and clauses with `own`.
abbrev pub sees_own : Rows → List ℕ → Bool
sees_own r row = bytes_eq row (codes "insert") || (not (has_ghosts r) && bytes_eq row (codes "delete"))

-- Whether the row asks at the current name; the row of updates is there only where they are offered, and those of an insert of a ghost and of one that finds its key present where there are ghosts.
abbrev pub has_current : Rows → List ℕ → Bool
has_current r row =
    bytes_eq row (codes "fetch-hit") || bytes_eq row (codes "scan-key") || bytes_eq row (codes "insert") || bytes_eq row (codes "delete")
    || (has_updates r && bytes_eq row (codes "update")) || (has_ghosts r && (bytes_eq row (codes "revive") || bytes_eq row (codes "insert-hit")))

-- Whether the row asks at the next name only where there are ghosts: that of an insert of a ghost or of a present key, and of a delete or an update that finds no name.
abbrev pub is_next_with_ghosts : List ℕ → Bool
is_next_with_ghosts row = bytes_eq row (codes "revive") || bytes_eq row (codes "insert-hit") || bytes_eq row (codes "delete-miss") || bytes_eq row (codes "update-miss")

-- Whether the row asks at the next name.
abbrev pub has_next : Rows → List ℕ → Bool
has_next r row =
    bytes_eq row (codes "fetch-miss") || bytes_eq row (codes "scan-stop") || sees_own r row
    || (has_ghosts r && is_next_with_ghosts row)

-- Whether there is a row of this name.
abbrev pub is_row : Rows → List ℕ → Bool
is_row r row = has_current r row || has_next r row

-- Whether the row has a side of this name.
abbrev pub is_side : Rows → List ℕ → List ℕ → Bool
is_side r row side = (bytes_eq side (codes "current") && has_current r row) || (bytes_eq side (codes "next") && has_next r row)

-- Whether a clause may have a member of this name.
abbrev pub is_clause_word : List ℕ → Bool
is_clause_word k = bytes_eq k (codes "own") || bytes_eq k (codes "mode") || bytes_eq k (codes "span")

-- Whether a clause may have members of all these names.
abbrev pub are_clause_words : Members → Bool
are_clause_words no_members = true
are_clause_words (member k d ms) = is_clause_word k && are_clause_words ms

-- Whether what was read is one of the two spans.
abbrev pub is_span : Option (List ℕ) → Bool
is_span None = false
is_span (Some word) = bytes_eq word (codes "instant") || bytes_eq word (codes "commit")

-- Whether it is a clause, but for its `own`: a table of known members, with a mode and a span.
abbrev pub is_clause : List (List ℕ) → Data → Bool
is_clause modes d = is_some (as_table d) && are_clause_words (members_of d) && is_mode_text modes (text_in (codes "mode") d) && is_span (text_in (codes "span") d)

-- Whether an element is the name of a mode, or `none`.
abbrev pub is_own_text : List (List ℕ) → Option (List ℕ) → Bool
is_own_text modes None = false
is_own_text modes (Some name) = bytes_eq name (codes "none") || is_mode modes name

-- Whether each element is the name of a mode, or `none`.
abbrev pub all_own : List (List ℕ) → Items → Bool
all_own modes no_items = true
all_own modes (item d ds) = is_own_text modes (as_str d) && all_own modes ds

-- Whether the `own` of a clause is an array of names of modes and of `none`.
abbrev pub is_own : List (List ℕ) → Option Items → Bool
is_own modes None = false
is_own modes (Some ds) = all_own modes ds

-- The path of the clause at an index.
abbrev pub clause_path : List ℕ → List ℕ → ℕ → List ℕ
clause_path row side i = codes "rules." ++ row ++ codes "." ++ side ++ codes "." ++ decimal i

-- The faults of the `own` of a clause, if it has one: it may stand only in a row that goes by the own mode.
abbrev pub own_faults : Rows → List (List ℕ) → List ℕ → List ℕ → ℕ → Option Data → List Fault
own_faults r modes row side i None = []
own_faults r modes row side i (Some d) =
    unless (sees_own r row) (own_not_allowed (clause_path row side i))
    ++ unless (is_own modes (as_array d)) (rule (clause_path row side i))

-- The faults of a clause.
abbrev pub clause_faults : Rows → List (List ℕ) → List ℕ → List ℕ → ℕ → Data → List Fault
clause_faults r modes row side i d = unless (is_clause modes d) (rule (clause_path row side i)) ++ own_faults r modes row side i (get (codes "own") d)

-- The faults of each clause of a side, from an index on.
abbrev pub clauses_faults : Rows → List (List ℕ) → List ℕ → List ℕ → ℕ → Items → List Fault
clauses_faults r modes row side i no_items = []
clauses_faults r modes row side i (item d ds) = clause_faults r modes row side i d ++ clauses_faults r modes row side (i + 1) ds

-- Each side that is no array or that the row hasn't, and the faults of its clauses, before the next side.
abbrev pub side_faults : Rows → List (List ℕ) → List ℕ → Members → List Fault
side_faults r modes row no_members = []
side_faults r modes row (member side d ms) =
    unless (is_side r row side && is_some (as_array d)) (rule (codes "rules." ++ row ++ codes "." ++ side))
    ++ (clauses_faults r modes row side 0 (items_within d) ++ side_faults r modes row ms)

-- Each row that is no table or unknown, and the faults of its sides, before the next row.
abbrev pub row_faults : Rows → List (List ℕ) → Members → List Fault
row_faults r modes no_members = []
row_faults r modes (member row d ms) =
    unless (is_row r row && is_some (as_table d)) (rule (codes "rules." ++ row))
    ++ (side_faults r modes row (members_of d) ++ row_faults r modes ms)

-- The whole --

-- The faults of `compatible`, `convert` and `rules`, given which rows the table has and the names of the modes.
abbrev pub content_faults : Rows → List (List ℕ) → Data → Data → Data → List Fault
content_faults r modes entries conversions rules =
    entry_faults modes (members_of entries)
    ++ (missing_faults modes entries
    ++ (held_faults modes (members_of conversions)
    ++ (missing_pairs modes modes conversions
    ++ row_faults r modes (members_of rules))))

-- All faults of a document, each kind without regard to the others.
abbrev pub faults : Data → List Fault
faults d =
    format_faults (integer_in (codes "format") d)
    ++ (name_faults (members_of d)
    ++ (list_faults (codes "modes") d
    ++ (table_faults (codes "compatible") d
    ++ (table_faults (codes "convert") d
    ++ (table_faults (codes "rules") d
    ++ (count_faults (items_len (items_in (codes "modes") d))
    ++ (mode_faults 0 [] (items_in (codes "modes") d)
    ++ content_faults (rows_of (updates_in d)) (modes_in d) (data_in (codes "compatible") d) (data_in (codes "convert") d) (data_in (codes "rules") d))))))))
