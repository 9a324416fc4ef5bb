-- the items of the cases so far
use Rattle.std.proofs.Common.{◌≡◌, take, string_bytes}
use Rattle.std.specs.List.{flat_map}
use Rattle.kr_ghost_view_table.specs.Cases.{case_item}
use Rattle.kr_ghost_view_table.proofs.cases.case_items.Given as goal

abbrev pub invariant-loop-case : goal.invariant-loop-case
invariant-loop-case g l = string_bytes l.out ≡ flat_map (case_item (g.P.Protocol.names l.protocol)) (take l.case-index l.failed)
