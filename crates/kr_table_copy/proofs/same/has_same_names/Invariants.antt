-- the modes so far
use Rattle.kr_table_copy.specs.Same.{SameNames}
use Rattle.kr_table_copy.proofs.same.has_same_names.Given as goal

abbrev pub invariant-loop-mode : goal.invariant-loop-mode
invariant-loop-mode g l = SameNames (g.P.Protocol.names l.one) (g.Q.Protocol.names l.other) l.mode
