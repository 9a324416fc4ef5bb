use Rattle.std.proofs.Common.{arith}
use Rattle.kr_decide.proofs.Surveyed.{safe_without_hole}
use Rattle.kr_decide.proofs.decision.find_hole.Goals as goal

pub returns-clause-none : goal.returns-clause-none
returns-clause-none g c =
    let i = c.loop-at.invariant in
    let within = i.within in
    safe_without_hole (g.P.Protocol.table c.args.protocol.now) c.loop-at.found c.loop-at.at c.first_hole-hole.result i.going (omega (arith, c.loop-at-test.false)) c.first_hole-hole.ensures.none
