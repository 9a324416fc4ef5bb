-- Scans downwards as those upwards of their ranges.
use Rattle.std.specs.Prelude.{ℕ, nat_lt, min, max, List, reverse, if◌then◌else◌}
use Rattle.kr_model.specs.declared.Op.{Op}
use Rattle.kr_model.specs.declared.Op.TheVariants as op
use Rattle.kr_trace_lines.specs.declared.observed.Observed.{Observed}
use Rattle.kr_trace_lines.specs.declared.observed.Observed.TheVariants as observed
use Rattle.kr_trace_follow.specs.Lines.{Line}

-- A scan downwards as the scan upwards of its range.
abbrev pub upwards : Op → Op
upwards (op.Scan a b) = op.Scan (min a b) (max a b)
upwards o = o

-- Its rows as those of the scan upwards.
abbrev pub rows_upwards : Op → List (ℕ × ℕ) → List (ℕ × ℕ)
rows_upwards (op.Scan a b) rows = if nat_lt b a then reverse rows else rows
rows_upwards o rows = rows

abbrev pub answer_upwards : Op → Observed → Observed
answer_upwards o (observed.Rows rows) = observed.Rows (rows_upwards o rows)
answer_upwards o a = a

-- A line with its scan as one upwards.
abbrev pub line_upwards : Line → Line
line_upwards l = record { number = l.number; event = record { txn = l.event.txn; op = upwards l.event.op }; observed = answer_upwards l.event.op l.observed }
