-- The lines of a part, one after another: what is kept of them, and which line may not stand behind them.
use Rattle.std.specs.Prelude.{◌≡◌, ℕ, ◌==◌, ◌&&◌, Bool, true, false, not, List, [], ◌∷◌, length, if◌then◌else◌, Option, Some, None}
use Rattle.std.specs.List.{list_any}
use Rattle.kr_model.specs.Locks.{add_once}
use Rattle.kr_trace_lines.specs.declared.observed.Observed.{Observed}
use Rattle.kr_trace_lines.specs.declared.observed.Observed.TheVariants as observed
use Rattle.kr_trace_lines.specs.declared.faults.LineFault.{LineFault}
use Rattle.kr_trace_lines.specs.declared.faults.LineFault.TheVariants as fault
use Rattle.kr_trace_lines.specs.Lines.{TraceLine, head, step, order}

-- Whether a head has begun a part, whether an order has ended it, and the transactions of the part that have ended, and of these the committed, with rising numbers.
pub record PartLines : Type 0 where
  pub begun : Bool
  pub ordered : Bool
  pub ended : List ℕ
  pub committed : List ℕ

-- Whether a number is in a list.
abbrev pub has : List ℕ → ℕ → Bool
has us t = list_any (λ u. u == t) us

-- Each number of a list is in another.
abbrev pub AreAmong : List ℕ → List ℕ → Type 0
AreAmong us vs = (t : ℕ) → has us t ≡ true → has vs t ≡ true

-- Whether no number comes twice.
abbrev pub are_distinct : List ℕ → Bool
are_distinct [] = true
are_distinct (t ∷ ts) = not (has ts t) && are_distinct ts

-- Whether each number is in a list.
abbrev pub are_in : List ℕ → List ℕ → Bool
are_in us [] = true
are_in us (t ∷ ts) = has us t && are_in us ts

-- Whether these are the committed transactions, each once: each has committed, none comes twice, and there are as many.
abbrev pub is_order_of : List ℕ → List ℕ → Bool
is_order_of committed ts = (are_in committed ts && are_distinct ts) && (length ts == length committed)

-- Whether a reply ends its transaction.
abbrev pub ends : Observed → Bool
ends observed.Committed = true
ends observed.Aborted = true
ends _ = false

-- Whether a reply commits its transaction.
abbrev pub commits : Observed → Bool
commits observed.Committed = true
commits _ = false

-- The fault of a line that may not stand behind the lines so far: before any head; a step or an order behind an order; a step of a transaction that has ended; an order that doesn't have each committed transaction once.
abbrev pub fault_behind : PartLines → TraceLine → Option LineFault
fault_behind p (head opening tests) = None
fault_behind p (step e o) =
    if not p.begun then Some fault.Field
    else if p.ordered then Some fault.Order
    else if has p.ended e.txn then Some fault.Ended
    else None
fault_behind p (order ts) =
    if not p.begun then Some fault.Field
    else if p.ordered then Some fault.Order
    else if is_order_of p.committed ts then None
    else Some fault.Order

-- What is kept after a transaction has ended without a commit.
abbrev pub with_end : ℕ → PartLines → PartLines
with_end t p = record { begun = p.begun; ordered = p.ordered; ended = add_once t p.ended; committed = p.committed }

-- What is kept after a transaction has committed.
abbrev pub with_commit : ℕ → PartLines → PartLines
with_commit t p = record { begun = p.begun; ordered = p.ordered; ended = add_once t p.ended; committed = add_once t p.committed }

-- What is kept after one more line.
abbrev pub after_line : PartLines → TraceLine → PartLines
after_line p (head opening tests) = record { begun = true; ordered = false; ended = []; committed = [] }
after_line p (step e o) = if commits o then with_commit e.txn p else if ends o then with_end e.txn p else p
after_line p (order ts) = record { begun = p.begun; ordered = true; ended = p.ended; committed = p.committed }
