-- What the bytes of a line read as: a line of a trace, or the first of their faults.
use Rattle.std.specs.Prelude.{◌≡◌, ◌≢◌, ℕ, ◌==◌, ◌&&◌, ◌||◌, ◌++◌, codes, List, [], ◌∷◌, Bool, true, false, nat_lt, bytes_eq, if◌then◌else◌, Option, Some, None, is_some, unwrap_or, option_and_then, Result, Ok, Err}
use Rattle.serde_json.specs.Data.{Data, Items, Members, no_members, member}
use Rattle.serde_json.specs.Find.{at, get, as_str, as_array, as_object}
use Rattle.serde_json.specs.Events.{items_len, members_len}
use Rattle.kr_model.specs.declared.Op.{Op}
use Rattle.kr_model.specs.declared.Event.{Event}
use Rattle.kr_model.specs.Firsts.{first, unless}
use Rattle.kr_model.specs.Map.{IsMap}
use Rattle.kr_script.specs.declared.faults.ScriptFault.{ScriptFault}
use Rattle.kr_script.specs.declared.faults.ScriptFault.TheVariants as told_as
use Rattle.kr_script.specs.Json.{length_of, number_in, list_in, items_in, members_in}
use Rattle.kr_script.specs.Steps.{event_of}
use Rattle.kr_script.specs.Faults.{opening_faults}
use Rattle.kr_script.specs.Reading.{document, pairs_of}
use Rattle.kr_trace_lines.specs.declared.observed.Observed.{Observed}
use Rattle.kr_trace_lines.specs.declared.faults.LineFault.{LineFault}
use Rattle.kr_trace_lines.specs.declared.faults.LineFault.TheVariants as fault
use Rattle.kr_trace_lines.specs.declared.line.Line.{Line}
use Rattle.kr_trace_lines.specs.Lines.{TraceLine, head, step, order, seen}
use Rattle.kr_trace_lines.specs.Replies.{each_of, txn_of, reply_in}

-- A head --

-- The faults of the member `format`, as a whole number if it is one.
abbrev pub format_faults : Option ℕ → List LineFault
format_faults None = fault.Field ∷ []
format_faults (Some n) = unless (n == 1) fault.Format

-- Whether a head has a member of this name.
abbrev pub is_head_name : List ℕ → Bool
is_head_name k = bytes_eq k (codes "format") || bytes_eq k (codes "opening") || bytes_eq k (codes "tests")

-- Whether each member has a name that a head has.
abbrev pub are_head_names : Members → Bool
are_head_names no_members = true
are_head_names (member k d ms) = is_head_name k && are_head_names ms

-- The texts that a member is, where it is an array of texts; none where there is no member.
abbrev pub texts_of : Option Data → Option (List (List ℕ))
texts_of None = Some []
texts_of (Some d) = option_and_then (each_of as_str) (as_array d)

-- The texts of the member `tests`.
abbrev pub tests_in : Data → Option (List (List ℕ))
tests_in d = texts_of (get (codes "tests") d)

-- Whether a list is empty.
abbrev pub is_empty : {A : Type 0} → List A → Bool
is_empty [] = true
is_empty (x ∷ xs) = false

-- The fault of a head for a fault of its opening.
abbrev pub fault_of_opening : ScriptFault → LineFault
fault_of_opening told_as.Memory = fault.Memory
fault_of_opening _ = fault.Opening

-- The faults of the elements of `opening`: of their number, and of pairs, whose keys rise.
abbrev pub pairs_faults : Items → List LineFault
pairs_faults ds = unless (nat_lt (items_len ds) 100001) fault.TooMany ++ unless (is_empty (opening_faults 0 None ds)) fault.Opening

-- The faults of a head, in the order in which they are told: of `format`, of the names of members, of `opening` and of `tests` as arrays, and of the elements of `opening`.
abbrev pub head_faults : Data → List LineFault
head_faults d =
    format_faults (number_in (codes "format") d)
    ++ (unless (are_head_names (members_in d)) fault.Field
    ++ (unless (is_some (list_in (codes "opening") d)) fault.Field
    ++ (unless (is_some (tests_in d)) fault.Field
    ++ pairs_faults (items_in (codes "opening") d))))

-- The head that a value with no fault is.
abbrev pub head_in : Data → TraceLine
head_in d = head (pairs_of (items_in (codes "opening") d)) (unwrap_or (tests_in d) [])

-- The fault, if there is one, and else the line.
abbrev pub unless_faulty : Option LineFault → TraceLine → Result TraceLine LineFault
unless_faulty None l = Ok l
unless_faulty (Some f) l = Err f

abbrev pub head_line : Data → Result TraceLine LineFault
head_line d = unless_faulty (first (head_faults d)) (head_in d)

-- An order --

-- The transactions of the member `order`, where the value has no other member.
abbrev pub order_in : Data → Option (List ℕ)
order_in d = if members_len (members_in d) == 1 then option_and_then (each_of txn_of) (list_in (codes "order") d) else None

-- An order, where there is one.
abbrev pub with_order : Option (List ℕ) → Result TraceLine LineFault
with_order None = Err fault.Field
with_order (Some txns) = Ok (order txns)

abbrev pub order_line : Data → Result TraceLine LineFault
order_line d = with_order (order_in d)

-- A step with its reply --

-- The step, which is the first of two elements, in format 2 of scripts.
abbrev pub event_in : Data → Option Event
event_in d = option_and_then (λ len. if len == 2 then option_and_then (event_of true) (at 0 d) else None) (length_of d)

-- The reply, which is the second element.
abbrev pub answer_in : Op → Data → Option Observed
answer_in op d = option_and_then (reply_in op) (at 1 d)

-- A step with its reply, where there is one.
abbrev pub with_answer : Event → Option Observed → Result TraceLine LineFault
with_answer e None = Err fault.Reply
with_answer e (Some o) = Ok (step e o)

-- A step where there is one, with the reply of this value.
abbrev pub with_event : Data → Option Event → Result TraceLine LineFault
with_event d None = Err fault.Step
with_event d (Some e) = with_answer e (answer_in e.op d)

abbrev pub step_line : Data → Result TraceLine LineFault
step_line d = with_event d (event_in d)

-- A line --

-- What a value reads as: an object with a member `order` is an order, another object a head, and any other value a step.
abbrev pub line_of : Data → Result TraceLine LineFault
line_of d =
    if is_some (get (codes "order") d) then order_line d
    else if is_some (as_object d) then head_line d
    else step_line d

-- What bytes read as, if they are a JSON value.
abbrev pub line_read : Option Data → Result TraceLine LineFault
line_read None = Err fault.NotJson
line_read (Some d) = line_of d

-- What the bytes of a line read as.
abbrev pub reading_line : List ℕ → Result TraceLine LineFault
reading_line bytes = line_read (document bytes)

-- The keys of an opening rise, where the line is a head.
abbrev pub RisesIn : TraceLine → Type 0
RisesIn (head opening tests) = IsMap opening
RisesIn (step e o) = Unit {0}
RisesIn (order txns) = Unit {0}

-- The answer is the reading, unless memory ran out.
abbrev pub Gives : Result Line LineFault → Result TraceLine LineFault → Type 0
Gives (Ok l) r = r ≡ Ok (seen l)
Gives (Err e) r = e ≢ fault.Memory → r ≡ Err e
