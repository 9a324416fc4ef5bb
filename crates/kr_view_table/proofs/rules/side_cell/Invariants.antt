-- the clauses of the own modes so far
use Rattle.std.proofs.Common.{◌≡◌, string_bytes}
use Rattle.std.specs.List.{flat_map}
use Rattle.kr_model.specs.Covers.{count_up}
use Rattle.kr_view_table.specs.Rules.{clause_at}
use Rattle.kr_view_table.proofs.rules.side_cell.Given as goal

abbrev pub invariant-loop-own : goal.invariant-loop-own
invariant-loop-own g l = string_bytes l.out ≡ flat_map (clause_at (g.P.Protocol.table l.protocol) (g.P.Protocol.names l.protocol) l.causes l.row l.side) (count_up 0 l.own)
