use Rattle.std.proofs.Common.{◌≤◌, sym, subst}
use Rattle.kr_relax_core.proofs.OfKind.{kept_within}
use Rattle.kr_relax_core.proofs.place.converted.Goals as goal

pub returns-clause-in_range : goal.returns-clause-in_range
returns-clause-in_range g c =
    let p = g.P.Protocol.table c.args.protocol.now in
    subst (λ m. m ≤ p.count) (sym c.convert.ensures) (kept_within p (g.met.P.Protocol.lawful c.args.protocol.now) c.args.held c.args.requested c.requires.held c.requires.requested)
