-- The document that is written for a table with ghosts.
use Rattle.std.specs.Prelude.{codes, pos, ℕ, List, Option, Some, None, unwrap_or, false}
use Rattle.toml.specs.Data.{Data, string, integer, array, table, Members, no_members}
use Rattle.toml.specs.Text.{IsDocumentText}
use Rattle.kr_table.specs.Tables.{Request}
use Rattle.kr_table.specs.Writing.{put, strings, with_compatible, with_pairs, with_conversion, plain_clauses, one_side, both_sides, changing_row, IsLongText}
use Rattle.kr_ghost_table.specs.declared.vain.Sides.{Sides}
use Rattle.kr_ghost_table.specs.declared.vain.VainRows.{VainRows}
use Rattle.kr_ghost_table.specs.Tables.{GhostData, delete_of}

-- What stands at `purge`: the word `unlocked`, or a table with the name of its heir at that of each mode, `none` where it has none.
abbrev pub purge_of : List (List ℕ) → Option (List ℕ) → Data
purge_of names None = string (codes "unlocked")
purge_of names (Some hs) = table (with_pairs names names hs no_members)

-- A row with this side alone.
abbrev pub side_row : List ℕ → List (List ℕ) → Request → Data
side_row side names r = table (one_side side (plain_clauses names r))

abbrev pub current_row : List (List ℕ) → Request → Data
current_row = side_row (codes "current")

abbrev pub next_row : List (List ℕ) → Request → Data
next_row = side_row (codes "next")

-- The sides of a row that has the side `next` only where something is requested there.
abbrev pub both_or_current : List (List ℕ) → Request → Request → Members
both_or_current names current None = one_side (codes "current") (plain_clauses names current)
both_or_current names current (Some r) = both_sides (plain_clauses names current) (plain_clauses names (Some r))

abbrev pub sides_row : List (List ℕ) → Request → Request → Data
sides_row names current next = table (both_or_current names current next)

-- A row that is made of what it requests, where the table has it.
abbrev pub with_row : {A : Type 0} → List ℕ → (A → Data) → Option A → Members → Members
with_row row made None ms = ms
with_row row made (Some r) ms = put row (made r) ms

-- That of an insert of a present key.
abbrev pub hit_row : List (List ℕ) → Sides → Data
hit_row names s = sides_row names s.current s.next

-- The rows of the vain steps.
abbrev pub with_vain : List (List ℕ) → VainRows → Members → Members
with_vain names rows ms =
    with_row (codes "update-miss") (next_row names) rows.update_miss
    (with_row (codes "delete-miss") (next_row names) rows.delete_miss
    (with_row (codes "insert-hit") (hit_row names) rows.insert_hit ms))

-- The rows that every table has.
abbrev pub all_rows : GhostData → Members
all_rows x =
    put (codes "revive") (sides_row x.table.modes.names x.revive x.revive_next)
    (put (codes "update") (current_row x.table.modes.names (unwrap_or x.table.update None))
    (put (codes "delete") (current_row x.table.modes.names (delete_of x.table))
    (put (codes "insert") (table (changing_row x.table.modes.names x.table.insert_current x.table.insert_next))
    (put (codes "scan-stop") (next_row x.table.modes.names x.table.scan_stop)
    (put (codes "scan-key") (current_row x.table.modes.names x.table.scan_key)
    (put (codes "fetch-miss") (next_row x.table.modes.names x.table.fetch_miss)
    (put (codes "fetch-hit") (current_row x.table.modes.names x.table.fetch_hit) no_members)))))))

-- The member `rules`.
abbrev pub written_rules : GhostData → Members
written_rules x = with_vain x.table.modes.names x.vain (all_rows x)

-- The document that is written for a table.
abbrev pub written : GhostData → Members
written x =
    put (codes "rules") (table (written_rules x))
    (put (codes "purge") (purge_of x.table.modes.names x.purge)
    (put (codes "convert") (table (with_conversion x.table.modes.names x.table.modes.names x.table.modes.conversion no_members))
    (put (codes "compatible") (table (with_compatible x.table.modes.names x.table.modes.names x.table.modes.compatible no_members))
    (put (codes "modes") (array (strings x.table.modes.names))
    (put (codes "deletes") (string (codes "ghosts"))
    (put (codes "format") (integer (pos 3)) no_members))))))

-- The text is that of the table: what `toml` writes for its document.
abbrev pub IsTextOf : GhostData → List ℕ → Type 0
IsTextOf x text = IsDocumentText false (written x) text

-- The text of the table is longer than can be read.
abbrev pub IsTooLong : GhostData → Type 0
IsTooLong x = IsLongText (written x)
