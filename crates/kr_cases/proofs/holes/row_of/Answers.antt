use Rattle.std.proofs.Common.{◌<◌, length, arith}
use Rattle.std.proofs.lemmas.Grind.{common_steps}
use Rattle.kr_cases.proofs.holes.row_of.Goals as goal

pub loop-held-preserved : goal.loop-held-preserved
loop-held-preserved g c =
    let few = (g.met.P.Protocol.lawful c.args.protocol.now).few in
    let low : c.loop-held.held < length c.loop-held.row = omega arith in
    record { wide = grind (arith, common_steps); told = λ h below. grind (arith, common_steps, c.loop-held.invariant.told h) }
