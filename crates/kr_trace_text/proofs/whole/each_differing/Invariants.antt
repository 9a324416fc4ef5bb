-- of the steps so far it is written how they differ
use Rattle.std.proofs.Common.{◌≡◌, flat_map, take, string_bytes}
use Rattle.kr_trace_text.specs.Whole.{differing_words}
use Rattle.kr_trace_text.proofs.whole.each_differing.Given as goal

abbrev pub invariant-loop-step : goal.invariant-loop-step
invariant-loop-step g l = string_bytes l.out ≡ flat_map (differing_words (g.P.Protocol.names l.protocol) l.deviation) (take l.step-index l.steps)
