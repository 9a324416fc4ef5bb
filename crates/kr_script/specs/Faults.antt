-- The faults of a document, in the order in which they are told.
use Rattle.std.specs.Prelude.{ℕ, ◌+◌, ◌||◌, ◌==◌, codes, List, [], ◌∷◌, ◌++◌, Bool, false, nat_lt, bytes_eq, if◌then◌else◌, Option, Some, None, is_some, option_map, option_and_then, Result, string_bytes}
use Rattle.serde_json.specs.Data.{Data, Items, no_items, item, Members, no_members, member}
use Rattle.serde_json.specs.Find.{as_object}
use Rattle.serde_json.specs.Events.{items_len}
use Rattle.kr_model.specs.Firsts as firsts
use Rattle.kr_model.specs.Firsts.{unless}
use Rattle.kr_model.specs.Map.{is_above}
use Rattle.kr_script.specs.declared.faults.ScriptFault.{ScriptFault}
use Rattle.kr_script.specs.declared.faults.ScriptFault.TheVariants as told_as
use Rattle.kr_script.specs.Json.{length_of, number_at, both, number_in, list_in, items_in, members_in}
use Rattle.kr_script.specs.Steps.{event_of}

-- What a fault is --

-- A fault of bytes that are no script, with its place.
pub data Fault : Type 0 where
  too_long : Fault
  not_json : Fault
  format : Fault
  field : List ℕ → Fault
  opening : ℕ → Fault
  step : ℕ → Fault
  too_many : List ℕ → Fault

-- Which fault is told, and none where memory ran out.
abbrev pub fault_of : ScriptFault → Option Fault
fault_of told_as.TooLong = Some too_long
fault_of told_as.NotJson = Some not_json
fault_of told_as.Format = Some format
fault_of (told_as.Field path) = Some (field (string_bytes path))
fault_of (told_as.Opening i) = Some (opening i)
fault_of (told_as.Step i) = Some (step i)
fault_of (told_as.TooMany path) = Some (too_many (string_bytes path))
fault_of told_as.Memory = None

-- The number of a kind of fault.
abbrev pub fault_number : ScriptFault → ℕ
fault_number told_as.TooLong = 1
fault_number told_as.NotJson = 2
fault_number told_as.Format = 3
fault_number (told_as.Field path) = 4
fault_number (told_as.Opening i) = 5
fault_number (told_as.Step i) = 6
fault_number (told_as.TooMany path) = 7
fault_number told_as.Memory = 8

-- The name of a kind of fault.
abbrev pub fault_name : ScriptFault → List ℕ
fault_name told_as.TooLong = codes "TooLong"
fault_name told_as.NotJson = codes "NotJson"
fault_name told_as.Format = codes "Format"
fault_name (told_as.Field path) = codes "Field"
fault_name (told_as.Opening i) = codes "Opening"
fault_name (told_as.Step i) = codes "Step"
fault_name (told_as.TooMany path) = codes "TooMany"
fault_name told_as.Memory = codes "Memory"

-- What is told is the first of these faults, or memory ran out.
abbrev pub Tells : ScriptFault → List Fault → Type 0
Tells e fs = firsts.Tells fault_of e fs

-- A test passes where there are none of these faults, and else tells the first.
abbrev pub Passes : Result (Unit {0}) ScriptFault → List Fault → Type 0
Passes r fs = firsts.Passes fault_of r fs

-- The faults of a document --

-- The faults of the member `format`, as a whole number if it is one.
abbrev pub format_faults : Option ℕ → List Fault
format_faults None = field (codes "format") ∷ []
format_faults (Some n) = unless (n == 1 || n == 2) format

-- Whether the format is 2.
abbrev pub is_two : Option ℕ → Bool
is_two None = false
is_two (Some n) = n == 2

-- Whether the script is of format 2.
abbrev pub two_in : Data → Bool
two_in d = is_two (number_in (codes "format") d)

-- Whether a script has a member of this name.
abbrev pub is_member_name : List ℕ → Bool
is_member_name k = bytes_eq k (codes "format") || bytes_eq k (codes "opening") || bytes_eq k (codes "steps")

-- Each member whose name is unknown; an object's members rise in the order of their bytes.
abbrev pub name_faults : Members → List Fault
name_faults no_members = []
name_faults (member k d ms) = unless (is_member_name k) (field k) ++ name_faults ms

-- A member that is no array.
abbrev pub list_faults : List ℕ → Data → List Fault
list_faults name d = unless (is_some (list_in name d)) (field name)

-- A member that has more than 100,000 elements.
abbrev pub size_faults : List ℕ → Data → List Fault
size_faults name d = unless (nat_lt (items_len (items_in name d)) 100001) (too_many name)

-- A key and a value, where an array has just these two.
abbrev pub pair_of : Data → Option (ℕ × ℕ)
pair_of d = option_and_then (λ len. if len == 2 then both (number_at 0 d) (number_at 1 d) else None) (length_of d)

-- The faults of the element at an index of `opening`, read as a pair, and of the key before it.
abbrev pub pair_faults : ℕ → Option ℕ → Option (ℕ × ℕ) → List Fault
pair_faults i before None = opening i ∷ []
pair_faults i before (Some p) = unless (is_above p.0 before) (opening i)

-- Each element of `opening`, from an index on, that is no pair or whose key isn't above the one before it.
abbrev pub opening_faults : ℕ → Option ℕ → Items → List Fault
opening_faults i before no_items = []
opening_faults i before (item d ds) = pair_faults i before (pair_of d) ++ opening_faults (i + 1) (option_map (λ p. p.0) (pair_of d)) ds

-- Each element of `steps`, from an index on, that is no step of the format.
abbrev pub step_faults : Bool → ℕ → Items → List Fault
step_faults two i no_items = []
step_faults two i (item d ds) = unless (is_some (event_of two d)) (step i) ++ step_faults two (i + 1) ds

-- All faults of a document, in the order in which they are told; none of these looks at another.
abbrev pub faults : Data → List Fault
faults d =
    unless (is_some (as_object d)) (field [])
    ++ (format_faults (number_in (codes "format") d)
    ++ (name_faults (members_in d)
    ++ (list_faults (codes "opening") d
    ++ (list_faults (codes "steps") d
    ++ (size_faults (codes "opening") d
    ++ (size_faults (codes "steps") d
    ++ (opening_faults 0 None (items_in (codes "opening") d)
    ++ step_faults (two_in d) 0 (items_in (codes "steps") d))))))))
