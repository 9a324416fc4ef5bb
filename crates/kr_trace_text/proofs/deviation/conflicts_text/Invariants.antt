-- the locks so far are written
use Rattle.std.proofs.Common.{◌≡◌, flat_map, take, string_bytes}
use Rattle.kr_trace_text.specs.Deviations.{conflict_words}
use Rattle.kr_trace_text.proofs.deviation.conflicts_text.Given as goal

abbrev pub invariant-loop-conflict : goal.invariant-loop-conflict
invariant-loop-conflict g l = string_bytes l.out ≡ flat_map (conflict_words (g.P.Protocol.names l.protocol)) (take l.conflict-index l.conflicts)
