-- the changes so far have their names
use Rattle.std.proofs.Common.{◌≡◌, map, take, string_bytes}
use Rattle.kr_change.specs.ChangeNames.{change_words}
use Rattle.kr_kinds.specs.Kinds.{table_of}
use Rattle.kr_suite_text.proofs.whole.names_of.Given as goal

abbrev pub invariant-loop-change : goal.invariant-loop-change
invariant-loop-change g l = map string_bytes l.names.items ≡ map (change_words (table_of (g.P.IndexProtocol.index l.protocol)) (g.P.Protocol.names l.protocol)) (take l.change-index l.changes)
