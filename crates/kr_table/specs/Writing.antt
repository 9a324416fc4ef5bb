-- The document that is written for a table.
use Rattle.std.specs.Prelude.{codes, pos, Option, ℕ, ◌<◌, List, [], ◌∷◌, ◌++◌, map, take, drop, length, Bool, false, if◌then◌else◌, Some, None}
use Rattle.std.specs.Ordering.{nat_cmp, match_ordering}
use Rattle.std.specs.Cmp.Lexicographic.{slice_cmp}
use Rattle.toml.specs.Data.{Data, string, integer, array, table, Items, no_items, item, Members, no_members, member}
use Rattle.toml.specs.Text.{IsDocumentText}
use Rattle.toml.specs.View.{items_of}
use Rattle.kr_model.specs.declared.Span.{Span}
use Rattle.kr_model.specs.declared.Span.TheVariants.{Instant, Commit}
use Rattle.kr_model.specs.ModeNames.{name_of}
use Rattle.kr_table.specs.Tables.{TableData, Request}

-- The members with d at k, in the order of the names' bytes.
abbrev pub put : List ℕ → Data → Members → Members
put k d no_members = member k d no_members
put k d (member l e ms) = match_ordering (slice_cmp nat_cmp k l) (member k d (member l e ms)) (member l d ms) (member l e (put k d ms))

-- An array of texts.
abbrev pub strings : List (List ℕ) → Items
strings ns = items_of (map string ns)

-- Which modes stand together --

-- The names at which the line says yes.
abbrev pub chosen : List (List ℕ) → List Bool → List (List ℕ)
chosen [] bs = []
chosen (n ∷ ns) [] = []
chosen (n ∷ ns) (b ∷ bs) = if b then n ∷ chosen ns bs else chosen ns bs

-- An entry for each name, by the next line of the square.
abbrev pub with_compatible : List (List ℕ) → List (List ℕ) → List Bool → Members → Members
with_compatible names [] bs ms = ms
with_compatible names (q ∷ qs) bs ms = with_compatible names qs (drop (length names) bs) (put q (array (strings (chosen names (take (length names) bs)))) ms)

-- Conversions --

-- A pair for each name, with the name of the next mode of the line.
abbrev pub with_pairs : List (List ℕ) → List (List ℕ) → List ℕ → Members → Members
with_pairs names [] cs ms = ms
with_pairs names (q ∷ qs) [] ms = ms
with_pairs names (q ∷ qs) (c ∷ cs) ms = with_pairs names qs cs (put q (string (name_of names c)) ms)

-- An entry for each name, by the next line of the square.
abbrev pub with_conversion : List (List ℕ) → List (List ℕ) → List ℕ → Members → Members
with_conversion names [] cs ms = ms
with_conversion names (h ∷ hs) cs ms = with_conversion names hs (drop (length names) cs) (put h (table (with_pairs names names (take (length names) cs) no_members)) ms)

-- Rules --

-- The word of a span.
abbrev pub word_of : Span → List ℕ
word_of Instant = codes "instant"
word_of Commit = codes "commit"

-- A clause with no `own`.
abbrev pub plain_clause : List (List ℕ) → ℕ → Span → Members
plain_clause names q s = put (codes "span") (string (word_of s)) (put (codes "mode") (string (name_of names q)) no_members)

-- The clauses of a side of a row whose operation moves no key.
abbrev pub plain_clauses : List (List ℕ) → Request → Items
plain_clauses names None = no_items
plain_clauses names (Some (q, s)) = item (table (plain_clause names q s)) no_items

-- A clause whose `own` is one name.
abbrev pub own_clause : List (List ℕ) → List ℕ → ℕ → Span → Members
own_clause names o q s = put (codes "own") (array (strings (o ∷ []))) (plain_clause names q s)

-- A clause for one own mode, where something is requested.
abbrev pub own_one : List (List ℕ) → List ℕ → Request → List Data
own_one names o None = []
own_one names o (Some (q, s)) = table (own_clause names o q s) ∷ []

-- A clause for each own mode at which something is requested.
abbrev pub own_list : List (List ℕ) → List (List ℕ) → List Request → List Data
own_list names [] rs = []
own_list names (o ∷ os) [] = []
own_list names (o ∷ os) (r ∷ rs) = own_one names o r ++ own_list names os rs

-- The clauses of a side of insert or delete.
abbrev pub own_clauses : List (List ℕ) → List (List ℕ) → List Request → Items
own_clauses names owns rs = items_of (own_list names owns rs)

-- A row of one side.
abbrev pub one_side : List ℕ → Items → Members
one_side side ds = put side (array ds) no_members

-- A row of both sides.
abbrev pub both_sides : Items → Items → Members
both_sides current next = put (codes "next") (array next) (put (codes "current") (array current) no_members)

-- A row of both sides, with a request for each own mode, from 0, for no lock.
abbrev pub changing_row : List (List ℕ) → List Request → List Request → Members
changing_row names current next = both_sides (own_clauses names (codes "none" ∷ names) current) (own_clauses names (codes "none" ∷ names) next)

-- The rows that every table has, and all sides of each.
abbrev pub all_rows : TableData → Members
all_rows x =
    put (codes "delete") (table (changing_row x.modes.names x.delete_current x.delete_next))
    (put (codes "insert") (table (changing_row x.modes.names x.insert_current x.insert_next))
    (put (codes "scan-stop") (table (one_side (codes "next") (plain_clauses x.modes.names x.scan_stop)))
    (put (codes "scan-key") (table (one_side (codes "current") (plain_clauses x.modes.names x.scan_key)))
    (put (codes "fetch-miss") (table (one_side (codes "next") (plain_clauses x.modes.names x.fetch_miss)))
    (put (codes "fetch-hit") (table (one_side (codes "current") (plain_clauses x.modes.names x.fetch_hit))) no_members)))))

-- The row of updates, where they are offered.
abbrev pub with_update : List (List ℕ) → Option Request → Members → Members
with_update names None ms = ms
with_update names (Some r) ms = put (codes "update") (table (one_side (codes "current") (plain_clauses names r))) ms

-- The member `rules`.
abbrev pub written_rules : TableData → Members
written_rules x = with_update x.modes.names x.update (all_rows x)

-- The whole --

-- The format of a table: 2 where updates are offered.
abbrev pub format_of : Option Request → ℕ
format_of None = 1
format_of (Some r) = 2

-- The document that is written for a table.
abbrev pub written : TableData → Members
written x =
    put (codes "rules") (table (written_rules x))
    (put (codes "convert") (table (with_conversion x.modes.names x.modes.names x.modes.conversion no_members))
    (put (codes "compatible") (table (with_compatible x.modes.names x.modes.names x.modes.compatible no_members))
    (put (codes "modes") (array (strings x.modes.names))
    (put (codes "format") (integer (pos (format_of x.update))) no_members))))

-- The text is that of the table: what `toml` writes for its document.
abbrev pub IsTextOf : TableData → List ℕ → Type 0
IsTextOf x text = IsDocumentText false (written x) text

-- What `toml` writes for a document is longer than can be read.
abbrev pub IsLongText : Members → Type 0
IsLongText ms = (text : List ℕ) × IsDocumentText false ms text × (65536 < length text)

-- The text of the table is longer than can be read.
abbrev pub IsTooLong : TableData → Type 0
IsTooLong x = IsLongText (written x)
