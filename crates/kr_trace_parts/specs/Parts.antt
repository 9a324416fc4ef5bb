-- A trace, line by line: its parts, and its first fault.
use Rattle.std.specs.Prelude.{◌≡◌, ℕ, suc, false, List, [], ◌∷◌, ◌++◌, Option, Some, None, if◌then◌else◌, Result, Ok, Err}
use Rattle.std.specs.Option.{option_map, option_to_list}
use Rattle.kr_model.specs.declared.Event.{Event}
use Rattle.kr_model.specs.Map.{Map}
use Rattle.kr_trace_lines.specs.declared.observed.Observed.{Observed}
use Rattle.kr_trace_follow.specs.Lines.{Line}
use Rattle.kr_trace_lines.specs.declared.faults.LineFault.{LineFault}
use Rattle.kr_trace_lines.specs.Lines.{TraceLine, head, step, order}
use Rattle.kr_trace_lines.specs.Parts.{PartLines, after_line, fault_behind}
use Rattle.kr_trace_lines.specs.Reading.{reading_line}
use Rattle.kr_trace_parts.specs.Lines.{is_blank}

-- Parts --

-- What a part says: the opening and the texts of its head, its steps with their replies and the numbers of their lines, and the order that ends it, if one does.
pub record Part : Type 0 where
  pub opening : Map
  pub tests : List (List ℕ)
  pub steps : List Line
  pub order : Option (List ℕ)

-- A head alone.
abbrev pub begun : Map → List (List ℕ) → Part
begun opening tests = record { opening = opening; tests = tests; steps = []; order = None }

-- One more step.
abbrev pub with_step : ℕ → Event → Observed → Part → Part
with_step n e o s = record { opening = s.opening; tests = s.tests; steps = s.steps ++ record { number = n; event = e; observed = o } ∷ []; order = s.order }

-- The order that ends a part.
abbrev pub with_order : List ℕ → Part → Part
with_order ts s = record { opening = s.opening; tests = s.tests; steps = s.steps; order = Some ts }

-- Lines --

-- Where the lines of a trace have led: how many there were; the parts that have ended; the part in progress; and which lines may follow.
pub record Led : Type 0 where
  pub count : ℕ
  pub ended : List Part
  pub current : Option Part
  pub kept : PartLines

-- Before any line.
abbrev pub at_start : Led
at_start = record { count = 0; ended = []; current = None; kept = record { begun = false; ordered = false; ended = []; committed = [] } }

-- The parts that have ended after a line: a head ends the part in progress.
abbrev pub ended_after : Led → TraceLine → List Part
ended_after r (head opening tests) = r.ended ++ option_to_list r.current
ended_after r (step e o) = r.ended
ended_after r (order ts) = r.ended

-- The part in progress after a line, which is that with this number: a head begins one, and a step and an order are of the part in progress.
abbrev pub current_after : ℕ → Option Part → TraceLine → Option Part
current_after n s (head opening tests) = Some (begun opening tests)
current_after n s (step e o) = option_map (with_step n e o) s
current_after n s (order ts) = option_map (with_order ts) s

-- After one more line, by what it reads as.
abbrev pub led_by : Led → Result TraceLine LineFault → Led
led_by r (Ok l) = record { count = suc r.count; ended = ended_after r l; current = current_after (suc r.count) r.current l; kept = after_line r.kept l }
led_by r (Err f) = record { count = suc r.count; ended = r.ended; current = r.current; kept = r.kept }

-- After one more line. One of blanks says nothing.
abbrev pub after : Led → List ℕ → Led
after r line = if is_blank line then record { count = suc r.count; ended = r.ended; current = r.current; kept = r.kept } else led_by r (reading_line line)

-- After lines, one after another.
abbrev pub after_all : Led → List (List ℕ) → Led
after_all r [] = r
after_all r (line ∷ lines) = after_all (after r line) lines

-- The fault of a line by what it reads as: its own, or that it may not come there.
abbrev pub fault_in : PartLines → Result TraceLine LineFault → Option LineFault
fault_in p (Ok l) = fault_behind p l
fault_in p (Err f) = Some f

-- The fault of a line behind others, if it has one.
abbrev pub fault_at : Led → List ℕ → Option LineFault
fault_at r line = if is_blank line then None else fault_in r.kept (reading_line line)

-- None of these lines has a fault.
abbrev pub HaveNoFault : Led → List (List ℕ) → Type 0
HaveNoFault r [] = Unit {0}
HaveNoFault r (line ∷ lines) = (fault_at r line ≡ None) × HaveNoFault (after r line) lines

-- The parts of lines, in their order.
abbrev pub parts_of : List (List ℕ) → List Part
parts_of lines = let r = after_all at_start lines in r.ended ++ option_to_list r.current

-- The parts of lines that have ended, since a head follows.
abbrev pub ended_in : List (List ℕ) → List Part
ended_in lines = let r = after_all at_start lines in r.ended
