use Rattle.kr_plan.proofs.Raised.{raised}
use Rattle.kr_plan.proofs.holds.hold_mode.Goals as goal

pub returns-clause-was : goal.returns-clause-was
returns-clause-was g c =
    raised (g.P.Protocol.table c.args.protocol.now) (g.L.Holdings.locks c.args.locks.now) (g.L.Holdings.locks c.raise.new.self) c.args.txn c.args.name c.args.mode c.raise.result (g.met.P.Protocol.lawful c.args.protocol.now) c.requires.within c.requires.no_none c.requires.in_order c.requires.asked.0 c.requires.asked.1 c.raise.ensures.was c.raise.ensures.ok
