-- a block for each of the causes so far
use Rattle.std.proofs.Common.{take, string_bytes}
use Rattle.kr_view_table.specs.Causes.{AreCauses}
use Rattle.kr_view_table.proofs.causes.causes.Given as goal

abbrev pub invariant-loop-at : goal.invariant-loop-at
invariant-loop-at g l = AreCauses (g.P.Protocol.table l.protocol) (g.P.Protocol.names l.protocol) 1 (take l.at l.causes) (string_bytes l.out)
