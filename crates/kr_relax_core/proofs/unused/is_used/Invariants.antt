use Rattle.kr_relax_core.proofs.Spotting.{NoneComes}
use Rattle.kr_relax_core.proofs.unused.is_used.Given as goal

-- none so far comes to it
abbrev pub invariant-loop-at : goal.invariant-loop-at
invariant-loop-at g l = NoneComes (g.P.IndexProtocol.index l.protocol) l.entry l.spots l.at
