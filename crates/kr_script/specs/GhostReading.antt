-- What bytes read as: a script that may have purges, or the first of their faults.
use Rattle.std.specs.Prelude.{◌≡◌, ℕ, ◌+◌, ◌||◌, ◌==◌, codes, List, [], ◌∷◌, ◌++◌, length, nat_lt, if◌then◌else◌, Option, Some, None, IfSome, is_some, unwrap_or, Result, Ok, Err}
use Rattle.serde_json.specs.Data.{Data, Items, no_items, item}
use Rattle.serde_json.specs.Find.{as_object}
use Rattle.kr_model.specs.Firsts.{first, unless}
use Rattle.kr_script.specs.declared.faults.ScriptFault.{ScriptFault}
use Rattle.kr_script.specs.Faults.{Fault, too_long, not_json, format, field, step, fault_of, name_faults, list_faults, size_faults, opening_faults}
use Rattle.kr_script.specs.Json.{number_in, items_in, members_in}
use Rattle.kr_script.specs.Reading.{with_some, pairs_of, document}
use Rattle.kr_ghost.specs.declared.moves.Move.{Move}
use Rattle.kr_script.specs.GhostScript.{GhostScript}
use Rattle.kr_script.specs.Moves.{move_of}

-- The faults of a document --

-- The faults of the member `format`, as a whole number if it is one.
abbrev pub format_faults : Option ℕ → List Fault
format_faults None = field (codes "format") ∷ []
format_faults (Some n) = unless (n == 1 || (n == 2 || n == 3)) format

-- The format of a script.
abbrev pub format_in : Data → ℕ
format_in d = unwrap_or (number_in (codes "format") d) 0

-- Each element of `steps`, from an index on, that is no step of the format.
abbrev pub move_faults : ℕ → ℕ → Items → List Fault
move_faults n i no_items = []
move_faults n i (item d ds) = unless (is_some (move_of n d)) (step i) ++ move_faults n (i + 1) ds

-- All faults of a document, in the order in which they are told, which is that of a script without purges.
abbrev pub faults : Data → List Fault
faults d =
    unless (is_some (as_object d)) (field [])
    ++ (format_faults (number_in (codes "format") d)
    ++ (name_faults (members_in d)
    ++ (list_faults (codes "opening") d
    ++ (list_faults (codes "steps") d
    ++ (size_faults (codes "opening") d
    ++ (size_faults (codes "steps") d
    ++ (opening_faults 0 None (items_in (codes "opening") d)
    ++ move_faults (format_in d) 0 (items_in (codes "steps") d))))))))

-- What is read --

-- The elements that are steps of the format, as moves.
abbrev pub moves_of : ℕ → Items → List Move
moves_of n no_items = []
moves_of n (item d ds) = with_some (move_of n d) (moves_of n ds)

-- The script that a document with no faults is.
abbrev pub script_in : Data → GhostScript
script_in d = record { opening = pairs_of (items_in (codes "opening") d); moves = moves_of (format_in d) (items_in (codes "steps") d) }

-- The fault, if there is one, and else the script.
abbrev pub unless_faulty : Option Fault → GhostScript → Result GhostScript Fault
unless_faulty None s = Ok s
unless_faulty (Some f) s = Err f

-- What a document reads as, if the bytes are one.
abbrev pub reading_of : Option Data → Result GhostScript Fault
reading_of None = Err not_json
reading_of (Some d) = unless_faulty (first (faults d)) (script_in d)

-- What bytes read as: at most 16,777,216 of them.
abbrev pub reading : List ℕ → Result GhostScript Fault
reading bytes = if nat_lt 16777216 (length bytes) then Err too_long else reading_of (document bytes)

-- The answer is the reading, unless memory ran out.
abbrev pub Gives : Result GhostScript ScriptFault → Result GhostScript Fault → Type 0
Gives (Ok s) r = r ≡ Ok s
Gives (Err e) r = IfSome (fault_of e) (λ f. r ≡ Err f)
