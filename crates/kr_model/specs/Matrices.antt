-- How the bundled protocols are drawn: matrices by lines, modes from 1.
use Rattle.std.specs.Prelude.{ℕ, ◌-◌, Bool, ◌||◌, ◌==◌, List, [], Option, Some, if◌then◌else◌, slice_index_or}
use Rattle.std.specs.List.{list_any}
use Rattle.kr_model.specs.declared.Span.{Span}
use Rattle.kr_model.specs.declared.Span.TheVariants.{Instant, Commit}

-- Whether a number stands in the list.
abbrev pub stands_in : List ℕ → ℕ → Bool
stands_in xs x = list_any (λ y. x == y) xs

-- The line of mode m.
abbrev pub line : List (List ℕ) → ℕ → List ℕ
line lines m = slice_index_or lines (m - 1) []

-- A line for each mode requested, with the held modes that it is compatible with; requesting none is compatible with all.
abbrev pub ok_by : List (List ℕ) → ℕ → ℕ → Bool
ok_by lines q h = q == 0 || h == 0 || stands_in (line lines q) h

-- A line for each held mode, with the converted mode for each mode requested; no lock and a mode convert to that mode.
abbrev pub convert_by : List (List ℕ) → ℕ → ℕ → ℕ
convert_by lines h q = if h == 0 then q else if q == 0 then h else slice_index_or (line lines h) (q - 1) 0

-- A request for commit duration: the lock is kept until the transaction ends.
abbrev pub for_commit : ℕ → Option (ℕ × Span)
for_commit m = Some (m, Commit)

-- A request for instant duration: the lock must be grantable, and isn't kept.
abbrev pub at_once : ℕ → Option (ℕ × Span)
at_once m = Some (m, Instant)
