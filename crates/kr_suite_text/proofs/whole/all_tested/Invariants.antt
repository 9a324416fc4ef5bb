-- the parts so far are written
use Rattle.std.proofs.Common.{◌≡◌, flat_map, take, string_bytes}
use Rattle.kr_suite_text.specs.Whole.{tested_text}
use Rattle.kr_kinds.specs.Kinds.{table_of}
use Rattle.kr_suite_text.proofs.whole.all_tested.Given as goal

abbrev pub invariant-loop-part : goal.invariant-loop-part
invariant-loop-part g l = string_bytes l.out ≡ flat_map (tested_text (table_of (g.P.IndexProtocol.index l.protocol)) (g.P.Protocol.names l.protocol)) (take l.part-index l.parts)
