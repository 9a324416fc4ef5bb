-- The keys of an opening that is read rise.
use Rattle.std.specs.Prelude.{◌≡◌, ℕ, Bool, true, false, nat_lt, cond, List, [], ◌∷◌, ◌++◌, Option, Some, None, is_some, Result, Ok, Err, IfOk, codes, refl}
use Rattle.std.proofs.Common.{subst}
use Rattle.serde_json.specs.Data.{Data, Items}
use Rattle.serde_json.specs.Events.{items_len}
use Rattle.serde_json.specs.Find.{as_object, get}
use Rattle.kr_model.specs.declared.Event.{Event}
use Rattle.kr_model.specs.Firsts.{first, unless}
use Rattle.kr_script.specs.Faults.{Fault, opening_faults}
use Rattle.kr_script.specs.Json.{items_in, list_in, members_in, number_in}
use Rattle.kr_script.specs.Reading.{document}
use Rattle.kr_script.proofs.Kept.{rising}
use Rattle.kr_trace_lines.specs.declared.observed.Observed.{Observed}
use Rattle.kr_trace_lines.specs.declared.faults.LineFault.{LineFault}
use Rattle.kr_trace_lines.specs.declared.faults.LineFault.TheVariants as fault
use Rattle.kr_trace_lines.specs.declared.line.Line.{Line}
use Rattle.kr_trace_lines.specs.Lines.{TraceLine, seen}
use Rattle.kr_trace_lines.specs.Reading.{answer_in, are_head_names, event_in, format_faults, head_faults, head_in, head_line, is_empty, line_read, order_in, order_line, pairs_faults, reading_line, step_line, tests_in, unless_faulty, with_answer, with_event, with_order, Gives, RisesIn}

-- A line with no fault has no faults.
no_first : {F : Type 0} (fs : List F) → first fs ≡ None → fs ≡ []
no_first [] h = refl
no_first (f ∷ fs) h = absurd (cc)

behind_none : {F : Type 0} (xs ys : List F) → xs ++ ys ≡ [] → ys ≡ []
behind_none [] ys h = h
behind_none (x ∷ xs) ys h = absurd (cc)

none_unless : {F : Type 0} (b : Bool) (f : F) → unless b f ≡ [] → b ≡ true
none_unless true f h = refl
none_unless false f h = absurd (cc)

is_none : (fs : List Fault) → is_empty fs ≡ true → fs ≡ []
is_none [] h = refl
is_none (f ∷ fs) h = absurd (cc)

-- what is read of a line, by cases
abbrev Rises : Result TraceLine LineFault → Type 0
Rises (Ok l) = RisesIn l
Rises (Err f) = Unit {0}

order_rises : (o : Option (List ℕ)) → Rises (with_order o)
order_rises None = tt
order_rises (Some ts) = tt

answer_rises : (e : Event) (o : Option Observed) → Rises (with_answer e o)
answer_rises e None = tt
answer_rises e (Some o) = tt

event_rises : (d : Data) (e : Option Event) → Rises (with_event d e)
event_rises d None = tt
event_rises d (Some e) = answer_rises e (answer_in e.op d)

head_rises : (d : Data) (f : Option LineFault) → first (head_faults d) ≡ f → Rises (unless_faulty f (head_in d))
head_rises d (Some f) h = tt
head_rises d None h =
    let ds : Items = items_in (codes "opening") d in
    let all = no_first (head_faults d) h in
    let a = behind_none (format_faults (number_in (codes "format") d)) (unless (are_head_names (members_in d)) fault.Field ++ (unless (is_some (list_in (codes "opening") d)) fault.Field ++ (unless (is_some (tests_in d)) fault.Field ++ pairs_faults ds))) all in
    let b = behind_none (unless (are_head_names (members_in d)) fault.Field) (unless (is_some (list_in (codes "opening") d)) fault.Field ++ (unless (is_some (tests_in d)) fault.Field ++ pairs_faults ds)) a in
    let c = behind_none (unless (is_some (list_in (codes "opening") d)) fault.Field) (unless (is_some (tests_in d)) fault.Field ++ pairs_faults ds) b in
    let e = behind_none (unless (is_some (tests_in d)) fault.Field) (pairs_faults ds) c in
    let g = behind_none (unless (nat_lt (items_len ds) 100001) fault.TooMany) (unless (is_empty (opening_faults 0 None ds)) fault.Opening) e in
    rising ds (is_none (opening_faults 0 None ds) (none_unless (is_empty (opening_faults 0 None ds)) fault.Opening g))

object_rises : (d : Data) (b : Bool) → Rises (cond b (head_line d) (step_line d))
object_rises d true = head_rises d (first (head_faults d)) refl
object_rises d false = event_rises d (event_in d)

value_rises : (d : Data) (b : Bool) → Rises (cond b (order_line d) (cond (is_some (as_object d)) (head_line d) (step_line d)))
value_rises d true = order_rises (order_in d)
value_rises d false = object_rises d (is_some (as_object d))

line_rises : (o : Option Data) → Rises (line_read o)
line_rises None = tt
line_rises (Some d) = value_rises d (is_some (get (codes "order") d))

-- The keys of the opening of a head that is read rise.
pub reading_rises : (bytes : List ℕ) (l : TraceLine) → reading_line bytes ≡ Ok l → RisesIn l
reading_rises bytes l is = subst Rises is (line_rises (document bytes))

-- So do those of a line that is given.
pub given_rises : (bytes : List ℕ) (r : Result Line LineFault) → Gives r (reading_line bytes) → IfOk r (λ l. RisesIn (seen l))
given_rises bytes (Ok l) is = reading_rises bytes (seen l) is
given_rises bytes (Err f) is = tt
