-- the list has the relaxations of the table
use Rattle.kr_relax_core.specs.Relaxations.{AreRelaxations}
use Rattle.kr_cli_tables.proofs.relaxations.tightest.take_shown.Given as goal

abbrev pub invariant-loop-at : goal.invariant-loop-at
invariant-loop-at g l = AreRelaxations (g.P.IndexProtocol.index l.table) l.list.items
