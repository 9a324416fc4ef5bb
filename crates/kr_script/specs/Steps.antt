-- What a step of a script is: the event that a value reads as, and the value that an event is written as.
use Rattle.std.specs.Prelude.{ℕ, ◌^◌, ◌==◌, codes, Bool, true, false, List, nat_lt, bytes_eq, if◌then◌else◌, Option, Some, None, option_map, option_and_then}
use Rattle.serde_json.specs.Data.{Data, string, array, Items, no_items, item}
use Rattle.kr_model.specs.declared.Op.{Op}
use Rattle.kr_model.specs.declared.Op.TheVariants.{Fetch, Scan, Go, Insert, Delete, Update, Commit, Abort, Back}
use Rattle.kr_model.specs.declared.Event.{Event}
use Rattle.kr_script.specs.Json.{whole, length_of, number_at, word_at, both}

-- From value to event --

-- The number behind the word, where nothing else is.
abbrev pub one_number : ℕ → Data → Option ℕ
one_number len d = if len == 3 then number_at 2 d else None

-- The two numbers behind the word, where nothing else is.
abbrev pub two_numbers : ℕ → Data → Option (ℕ × ℕ)
two_numbers len d = if len == 4 then both (number_at 2 d) (number_at 3 d) else None

-- The operation, where nothing is behind the word.
abbrev pub alone : ℕ → Op → Option Op
alone len o = if len == 2 then Some o else None

-- The operation of a step with this word and so many elements, of the forms that are in format 2 alone: a line for each.
abbrev pub later_op_of : List ℕ → ℕ → Data → Option Op
later_op_of word len d =
    if bytes_eq word (codes "update") then option_map (λ p. Update p.0 p.1) (two_numbers len d)
    else if bytes_eq word (codes "back") then alone len Back
    else None

-- The operation of a step with this word and so many elements, in format 2 or in format 1: a line for each form of format 1, and in format 2 those of both.
abbrev pub op_of : Bool → List ℕ → ℕ → Data → Option Op
op_of two word len d =
    if bytes_eq word (codes "fetch") then option_map Fetch (one_number len d)
    else if bytes_eq word (codes "scan") then option_map (λ p. Scan p.0 p.1) (two_numbers len d)
    else if bytes_eq word (codes "go") then alone len Go
    else if bytes_eq word (codes "insert") then option_map (λ p. Insert p.0 p.1) (two_numbers len d)
    else if bytes_eq word (codes "delete") then option_map Delete (one_number len d)
    else if bytes_eq word (codes "commit") then alone len Commit
    else if bytes_eq word (codes "abort") then alone len Abort
    else if two then later_op_of word len d
    else None

-- An operation with the transaction that attempts it, whose number has 32 bits.
abbrev pub as_event : ℕ → Op → Option Event
as_event txn op = if nat_lt txn (2 ^ 32) then Some (record { txn = txn; op = op }) else None

-- The event of a step, in format 2 or in format 1: the transaction's number, the word of the operation, and its numbers.
abbrev pub event_of : Bool → Data → Option Event
event_of two d =
    option_and_then (λ len. option_and_then (λ txn. option_and_then (λ word.
    option_and_then (as_event txn) (op_of two word len d)) (word_at 1 d)) (number_at 0 d)) (length_of d)

-- From event to value --

-- The word and the numbers of an operation: a line for each form.
abbrev pub items_of_op : Op → Items
items_of_op (Fetch k) = item (string (codes "fetch")) (item (whole k) no_items)
items_of_op (Scan lo hi) = item (string (codes "scan")) (item (whole lo) (item (whole hi) no_items))
items_of_op Go = item (string (codes "go")) no_items
items_of_op (Insert k v) = item (string (codes "insert")) (item (whole k) (item (whole v) no_items))
items_of_op (Delete k) = item (string (codes "delete")) (item (whole k) no_items)
items_of_op (Update k v) = item (string (codes "update")) (item (whole k) (item (whole v) no_items))
items_of_op Commit = item (string (codes "commit")) no_items
items_of_op Abort = item (string (codes "abort")) no_items
items_of_op Back = item (string (codes "back")) no_items

-- Whether the form of an operation is in format 2 alone.
abbrev pub is_later : Op → Bool
is_later (Update k v) = true
is_later Back = true
is_later _ = false

-- The step that an event is written as.
abbrev pub step_of : Event → Data
step_of e = array (item (whole e.txn) (items_of_op e.op))
