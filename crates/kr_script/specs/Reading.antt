-- What bytes read as: a script, or the first of their faults.
use Rattle.std.specs.Prelude.{◌≡◌, ℕ, codes, List, [], ◌∷◌, length, Bool, nat_lt, if◌then◌else◌, Option, Some, None, IfSome, Result, Ok, Err}
use Rattle.std.specs.Str.{is_utf8}
use Rattle.serde_json.specs.Data.{Data, Items, no_items, item}
use Rattle.serde_json.specs.Read.{read}
use Rattle.kr_model.specs.declared.Event.{Event}
use Rattle.kr_model.specs.Map.{Map}
use Rattle.kr_model.specs.Firsts.{first}
use Rattle.kr_script.specs.declared.faults.ScriptFault.{ScriptFault}
use Rattle.kr_script.specs.Json.{items_in}
use Rattle.kr_script.specs.Script.{Script}
use Rattle.kr_script.specs.Steps.{event_of}
use Rattle.kr_script.specs.Faults.{Fault, too_long, not_json, fault_of, faults, two_in, pair_of}

-- A list with x in front, where there is an x.
abbrev pub with_some : {A : Type 0} → Option A → List A → List A
with_some None xs = xs
with_some (Some x) xs = x ∷ xs

-- The elements that are pairs, as such.
abbrev pub pairs_of : Items → Map
pairs_of no_items = []
pairs_of (item d ds) = with_some (pair_of d) (pairs_of ds)

-- The elements that are steps of the format, as events.
abbrev pub events_of : Bool → Items → List Event
events_of two no_items = []
events_of two (item d ds) = with_some (event_of two d) (events_of two ds)

-- The script that a document with no faults is.
abbrev pub script_in : Data → Script
script_in d = record { opening = pairs_of (items_in (codes "opening") d); steps = events_of (two_in d) (items_in (codes "steps") d) }

-- The fault, if there is one, and else the script.
abbrev pub unless_faulty : Option Fault → Script → Result Script Fault
unless_faulty None s = Ok s
unless_faulty (Some f) s = Err f

-- What a document reads as, if the bytes are one.
abbrev pub reading_of : Option Data → Result Script Fault
reading_of None = Err not_json
reading_of (Some d) = unless_faulty (first (faults d)) (script_in d)

-- The document that bytes are, if they are JSON: text in UTF-8 that `serde_json` doesn't refuse.
abbrev pub document : List ℕ → Option Data
document bytes = if is_utf8 bytes then read bytes else None

-- What bytes read as: at most 16,777,216 of them.
abbrev pub reading : List ℕ → Result Script Fault
reading bytes = if nat_lt 16777216 (length bytes) then Err too_long else reading_of (document bytes)

-- The answer is the reading, unless memory ran out.
abbrev pub Gives : Result Script ScriptFault → Result Script Fault → Type 0
Gives (Ok s) r = r ≡ Ok s
Gives (Err e) r = IfSome (fault_of e) (λ f. r ≡ Err f)
