use Rattle.std.proofs.Common.{[]}
use Rattle.kr_table.specs.Matrix.{matrix_of, ok_of}
use Rattle.kr_table.proofs.ModeRows.{IsRowTo}
use Rattle.kr_table.proofs.modes.row_of.Given as goal

-- the bits of the modes so far
abbrev pub invariant-loop-held : goal.invariant-loop-held
invariant-loop-held l = IsRowTo (ok_of (matrix_of l.names l.ok []) l.requested) l.held l.row
