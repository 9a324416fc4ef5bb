-- the rows of the modes so far
use Rattle.std.proofs.Common.{◌≡◌, ◌-◌, string_bytes}
use Rattle.std.specs.List.{flat_map}
use Rattle.kr_model.specs.Covers.{count_up}
use Rattle.kr_ghost_view_table.specs.Covers.{mode_row}
use Rattle.kr_ghost_view_table.proofs.covers.mode_rows.Given as goal

abbrev pub invariant-loop-mode : goal.invariant-loop-mode
invariant-loop-mode g l = string_bytes l.out ≡ flat_map (mode_row (g.P.GhostProtocol.ghosts l.protocol) (g.P.Protocol.names l.protocol)) (count_up 1 (l.mode - 1))
