-- the changes so far are written
use Rattle.std.proofs.Common.{◌≡◌, flat_map, take, string_bytes}
use Rattle.kr_suite_text.specs.Whole.{change_line}
use Rattle.kr_kinds.specs.Kinds.{table_of}
use Rattle.kr_suite_text.proofs.left.change_lines.Given as goal

abbrev pub invariant-loop-change : goal.invariant-loop-change
invariant-loop-change g l = string_bytes l.out ≡ flat_map (change_line (table_of (g.P.IndexProtocol.index l.protocol)) (g.P.Protocol.names l.protocol) l.survey l.verdict) (take l.change-index l.changes)
