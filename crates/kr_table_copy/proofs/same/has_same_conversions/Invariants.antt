-- the requested modes so far
use Rattle.kr_table_copy.specs.Same.{SameConversions}
use Rattle.kr_table_copy.proofs.same.has_same_conversions.Given as goal

abbrev pub invariant-loop-requested : goal.invariant-loop-requested
invariant-loop-requested g l = SameConversions (g.P.Protocol.table l.one) (g.Q.Protocol.table l.other) l.held l.requested
