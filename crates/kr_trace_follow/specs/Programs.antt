-- The programs of committed transactions, put together from lines as they were given.
use Rattle.std.specs.Prelude.{ℕ, ◌==◌, List, [], ◌∷◌, ◌++◌, Option, Some, None, if◌then◌else◌}
use Rattle.kr_model.specs.declared.Op.{Op}
use Rattle.kr_model.specs.declared.Op.TheVariants as op
use Rattle.kr_trace_lines.specs.declared.observed.Observed.{Observed}
use Rattle.kr_trace_lines.specs.declared.observed.Observed.TheVariants as observed
use Rattle.kr_trace_follow.specs.Lines.{Line}
use Rattle.kr_trace_follow.specs.Given.{Given}

-- What lines say that a transaction has done so far: its operations with their answers, and the range of its scan in progress, if there is one.
pub record Tale : Type 0 where
  pub done : List Given
  pub scan : Option (ℕ × ℕ)

-- Nothing.
abbrev pub no_tale : Tale
no_tale = record { done = []; scan = None }

-- One more operation with its answer.
abbrev pub given : Tale → Given → Tale
given x y = record { done = x.done ++ y ∷ []; scan = None }

-- The scan in progress, if there is one, has ended with this answer.
abbrev pub scan_given : Tale → Option (ℕ × ℕ) → Observed → Tale
scan_given x None a = x
scan_given x (Some (lo, hi)) a = given x (op.Scan lo hi, a)

-- One more step that was granted. A scan is one operation, whose answer is the rows that it ends with.
abbrev pub tale_after : Tale → Op → Observed → Tale
tale_after x (op.Scan lo hi) (observed.Going k) = record { done = x.done; scan = Some (lo, hi) }
tale_after x op.Go (observed.Going k) = x
tale_after x op.Go a = scan_given x x.scan a
tale_after x o a = given x (o, a)

-- What lines say that each transaction has done so far, and the programs that have committed, in commit order.
pub record Tales : Type 0 where
  pub of : ℕ → Tale
  pub committed : List (List Given)

-- No line was given.
abbrev pub no_tales : Tales
no_tales = record { of = λ t. no_tale; committed = [] }

-- The tales with this one of t.
abbrev pub with_tale : (ℕ → Tale) → ℕ → Tale → ℕ → Tale
with_tale f t x u = if u == t then x else f u

-- After a step of t with this reply: one that is blocked says nothing, nor does a change undone, since its transaction never commits.
abbrev pub tales_after : Tales → ℕ → Op → Observed → Tales
tales_after w t o observed.Committed = record { of = with_tale w.of t no_tale; committed = w.committed ++ (let x = w.of t in x.done) ∷ [] }
tales_after w t o observed.Aborted = record { of = with_tale w.of t no_tale; committed = w.committed }
tales_after w t o (observed.Blocked named) = w
tales_after w t o (observed.Undone n) = w
tales_after w t o a = record { of = with_tale w.of t (tale_after (w.of t) o a); committed = w.committed }

-- After lines, one after another.
abbrev pub tales_of : Tales → List Line → Tales
tales_of w [] = w
tales_of w (l ∷ ls) = tales_of (tales_after w l.event.txn l.event.op l.observed) ls

-- The programs that have committed, in commit order, as they were given.
abbrev pub given_programs : List Line → List (List Given)
given_programs lines = let w = tales_of no_tales lines in w.committed
