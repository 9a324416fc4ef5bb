use Rattle.kr_touch.proofs.Sighted.{absent_before, absent_at_end}
use Rattle.kr_touch.proofs.sights.look.Goals as goal

pub returns-else-found-key-clause-value : goal.returns-else-found-key-clause-value
returns-else-found-key-clause-value g c = absent_before (g.I.Ordered.map c.args.index.now) c.args.key c.in-Some.found (g.met.I.Ordered.in_order c.args.index.now) c.in-Some.ensures.name c.if-found-key.false

pub returns-in-None-clause-value : goal.returns-in-None-clause-value
returns-in-None-clause-value g c = absent_at_end (g.I.Ordered.map c.args.index.now) c.args.key c.in-None.ensures.none
