use Rattle.std.proofs.Common.{◌≡◌, ℕ, ◌<◌, [], length, slice_index_or}
use Rattle.kr_table.specs.Matrix.{matrix_of, IsRowOf}
use Rattle.kr_table.proofs.modes.rows_of.Given as goal

-- the rows of none and of the modes so far
abbrev pub invariant-loop-requested : goal.invariant-loop-requested
invariant-loop-requested l = record {
  places : length l.rows ≡ 16;
  rows : (q : ℕ) → q < l.requested → IsRowOf (matrix_of l.names l.ok []) q (slice_index_or l.rows q 0);
}
