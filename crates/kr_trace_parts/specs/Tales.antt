-- The committed transactions of steps, in commit order, each with its program.
use Rattle.std.specs.Prelude.{ℕ, List, [], ◌∷◌, ◌++◌, Option, Some, None}
use Rattle.std.specs.BTreeMap.{BTreeMap, get}
use Rattle.std.specs.Ordering.{nat_cmp}
use Rattle.kr_model.specs.declared.Event.{Event}
use Rattle.kr_trace_lines.specs.declared.observed.Observed.{Observed}
use Rattle.kr_trace_lines.specs.declared.observed.Observed.TheVariants as observed
use Rattle.kr_trace_follow.specs.Lines.{Line}
use Rattle.kr_trace_follow.specs.Programs.{Tale, tales_after, no_tale}
use Rattle.kr_trace_follow.specs.Given.{Given}
use Rattle.kr_trace_follow.specs.Upwards.{answer_upwards, upwards}
use Rattle.kr_trace_parts.specs.Committed.{Committed}
use Rattle.kr_trace_parts.specs.declared.tales.Tale.{Tale as Noted}

-- What is noted, as the definitions of given programs have it.
abbrev pub shown : Noted → Tale
shown x = record { done = x.done.items; scan = x.scan }

-- What is noted of a transaction: nothing, where it isn't in the map.
abbrev pub tale_in : Option Noted → Tale
tale_in None = no_tale
tale_in (Some x) = shown x

abbrev pub noted : BTreeMap ℕ Noted → ℕ → Tale
noted tales t = tale_in (get nat_cmp tales t)

-- What each transaction has done after a step of t with this reply, where f is what it had done before. A scan is noted as one upwards.
abbrev pub told_of : (ℕ → Tale) → Event → Observed → ℕ → Tale
told_of f e o u = let w = tales_after (record { of = f; committed = [] }) e.txn (upwards e.op) (answer_upwards e.op o) in w.of u

-- The program that commits with a reply, where its transaction has done this.
abbrev pub program_committed : Tale → Observed → Option (List Given)
program_committed x observed.Committed = Some x.done
program_committed x _ = None

-- Who has committed with a reply, and the program.
abbrev pub committed_with : ℕ → Option (List Given) → List Committed
committed_with t None = []
committed_with t (Some program) = record { txn = t; program = program } ∷ []

-- What each transaction has done after steps.
abbrev pub told_after : (ℕ → Tale) → List Line → ℕ → Tale
told_after f [] = f
told_after f (l ∷ ls) = told_after (told_of f l.event l.observed) ls

-- Those that commit in steps, in commit order, where f is what they had done before.
abbrev pub committed_from : (ℕ → Tale) → List Line → List Committed
committed_from f [] = []
committed_from f (l ∷ ls) = committed_with l.event.txn (program_committed (f l.event.txn) l.observed) ++ committed_from (told_of f l.event l.observed) ls

-- The committed transactions of steps.
abbrev pub committed_in : List Line → List Committed
committed_in lines = committed_from (λ t. no_tale) lines
