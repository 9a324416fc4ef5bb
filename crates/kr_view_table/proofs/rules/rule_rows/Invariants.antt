-- the rows of the operations so far
use Rattle.std.proofs.Common.{◌≡◌, take, string_bytes}
use Rattle.std.specs.List.{flat_map}
use Rattle.kr_view_table.specs.Rules.{offered, rule_row}
use Rattle.kr_view_table.proofs.rules.rule_rows.Given as goal

abbrev pub invariant-loop-row : goal.invariant-loop-row
invariant-loop-row g l = string_bytes l.out ≡ flat_map (rule_row (g.P.Protocol.table l.protocol) (g.P.Protocol.names l.protocol) l.causes) (take l.row-index (offered (g.P.Protocol.table l.protocol)))
