-- the reasons so far are written
use Rattle.std.proofs.Common.{◌≡◌, flat_map, take, string_bytes}
use Rattle.kr_relax_text.specs.Reasons.{reason_words}
use Rattle.kr_relax_text.proofs.because.reasons_text.Given as goal

abbrev pub invariant-loop-reason : goal.invariant-loop-reason
invariant-loop-reason g l = string_bytes l.out ≡ flat_map (reason_words (g.P.Protocol.table l.protocol) (g.P.Protocol.names l.protocol)) (take l.reason-index l.list)
