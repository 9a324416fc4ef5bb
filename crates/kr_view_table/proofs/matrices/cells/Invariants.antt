-- the cells of the modes so far
use Rattle.std.proofs.Common.{◌≡◌, ◌-◌, string_bytes}
use Rattle.std.specs.List.{flat_map}
use Rattle.kr_model.specs.Covers.{count_up}
use Rattle.kr_view_table.specs.Matrices.{cell_words}
use Rattle.kr_view_table.proofs.matrices.cells.Given as goal

abbrev pub invariant-loop-other : goal.invariant-loop-other
invariant-loop-other g l = string_bytes l.out ≡ flat_map (cell_words (g.P.Protocol.table l.protocol) (g.P.Protocol.names l.protocol) l.explanation l.which l.mode) (count_up 1 (l.other - 1))
