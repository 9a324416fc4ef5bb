use Rattle.std.proofs.Common.{ap}
use Rattle.kr_relax_text.proofs.Wrong.{same_wrong}
use Rattle.kr_relax_text.proofs.reasons.wrong_with.Goals as goal

pub returns-in-Some : goal.returns-in-Some
returns-in-Some g c =
    same_wrong (g.P.IndexProtocol.index c.args.protocol.now) (g.P.IndexProtocol.index c.in-Some.changed.base.now) c.args.change c.in-Some.changed.change c.wrong_under.result
    (ap (λ x. g.P.IndexProtocol.index x) c.in-Some.ensures.base)
    c.in-Some.ensures.change
    c.wrong_under.ensures
