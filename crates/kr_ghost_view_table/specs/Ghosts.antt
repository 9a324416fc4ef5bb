-- What is requested of a ghost, and what becomes of the locks on it, as they stand in the page of a table.
use Rattle.std.specs.Prelude.{ℕ, ◌==◌, List, [], ◌++◌, Option, Some, None, codes, flat_map, if◌then◌else◌}
use Rattle.kr_model.specs.declared.Span.{Span}
use Rattle.kr_model.specs.ModeNames.{name_of}
use Rattle.kr_model.specs.Covers.{modes}
use Rattle.kr_ghost.specs.declared.vain.Vain.TheVariants.{InsertHit, DeleteMiss, UpdateMiss}
use Rattle.kr_ghost.specs.Protocol.{GhostProtocol, heir_of, inherits}
use Rattle.kr_view_scenes.specs.Escape.{escaped}
use Rattle.kr_view_table.specs.Rules.{request_words}
use Rattle.kr_ghost_view_table.specs.declared.ghosts.TheConstants.{GHOSTS, WAITS, HEIRS}

-- A mode, or that there is no lock.
abbrev pub mode_words : List (List ℕ) → ℕ → List ℕ
mode_words names m = if m == 0 then codes "no lock" else escaped (name_of names m)

-- The row of a mode on a ghost: the mode in which it is inherited.
abbrev pub heir_row : GhostProtocol → List (List ℕ) → ℕ → List ℕ
heir_row p names m =
    codes "<tr class=\"heir\"><th scope=\"row\">" ++ (escaped (name_of names m) ++ (codes "</th><td>" ++ (mode_words names (heir_of p.purges m) ++ codes "</td></tr>\n")))

-- What becomes of the locks on a ghost that is purged: a row for each mode, or that the purge waits for them.
abbrev pub purge_words : GhostProtocol → List (List ℕ) → List ℕ
purge_words p names = if inherits p.purges then HEIRS.now ++ (flat_map (heir_row p names) (modes p.table) ++ codes "</tbody></table></div>\n") else WAITS.now

-- What is requested on the name above too, if anything is.
abbrev pub above_words : List (List ℕ) → Option (ℕ × Span) → List ℕ
above_words names None = []
above_words names (Some r) = codes "; on the name above it: " ++ request_words names (Some r)

-- What the row of a vain step requests, behind these words, if the table has the row.
abbrev pub row_words : List (List ℕ) → List ℕ → Option (Option (ℕ × Span)) → Option (ℕ × Span) → List ℕ
row_words names opening None above = []
row_words names opening (Some asked) above = opening ++ (request_words names asked ++ (above_words names above ++ codes ".</p>\n"))

-- The rows of vain steps that the table has.
abbrev pub vain_words : GhostProtocol → List (List ℕ) → List ℕ
vain_words p names =
    row_words names (codes "<p>insert-hit, an insert of a present key, on it: ") (p.vain InsertHit) p.insert_hit_next
    ++ (row_words names (codes "<p>delete-miss, a delete of a key that is no name, on the next name: ") (p.vain DeleteMiss) None
    ++ row_words names (codes "<p>update-miss, an update of such a key, on the next name: ") (p.vain UpdateMiss) None)

-- What an insert of a ghost and vain steps request, and what becomes of locks at a purge.
abbrev pub ghosts_words : GhostProtocol → List (List ℕ) → List ℕ
ghosts_words p names = GHOSTS.now ++ (request_words names p.revive ++ (above_words names p.revive_next ++ (codes ".</p>\n" ++ (vain_words p names ++ purge_words p names))))
