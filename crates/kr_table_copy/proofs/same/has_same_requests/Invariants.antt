-- the own modes so far
use Rattle.kr_table_copy.specs.Same.{SameRequests}
use Rattle.kr_table_copy.proofs.same.has_same_requests.Given as goal

abbrev pub invariant-loop-own : goal.invariant-loop-own
invariant-loop-own g l = SameRequests (g.P.Protocol.table l.one) (g.Q.Protocol.table l.other) l.row l.side l.own
