-- the held modes so far
use Rattle.kr_table_copy.specs.Same.{SamePairs}
use Rattle.kr_table_copy.proofs.same.has_same_pairs.Given as goal

abbrev pub invariant-loop-held : goal.invariant-loop-held
invariant-loop-held g l = SamePairs (g.P.Protocol.table l.one) (g.Q.Protocol.table l.other) l.requested l.held
