use Rattle.std.proofs.Common.{◌≡◌, vec_len}
use Rattle.kr_records.proofs.row.make.Given as goal

abbrev pub invariant-loop-i : goal.invariant-loop-i
invariant-loop-i l = vec_len l.cells ≡ l.i
