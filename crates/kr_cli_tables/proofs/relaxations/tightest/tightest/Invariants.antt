-- what relaxations made of the protocol so far
use Rattle.kr_cli_tables.specs.Tightest.{RelaxedFrom}
use Rattle.kr_cli_tables.proofs.relaxations.tightest.tightest.Given as goal

abbrev pub invariant-loop : goal.invariant-loop
invariant-loop g l = RelaxedFrom (g.P.IndexProtocol.index l.protocol) (g.P.Protocol.names l.protocol) l.table
