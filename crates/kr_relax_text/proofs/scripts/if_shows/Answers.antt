use Rattle.std.proofs.Common.{ap}
use Rattle.kr_relax_text.proofs.Showing.{same_shown}
use Rattle.kr_relax_text.proofs.scripts.if_shows.Goals as goal

pub returns : goal.returns
returns g c =
    let p = g.P.IndexProtocol.index c.args.protocol.now in
    same_shown p (g.P.IndexProtocol.index c.in-Some.changed.base.now) c.args.change c.in-Some.changed.change c.deref.result.now c.args.shown.opening.items c.deref-2.result.now c.args.shown.events.items
    (ap (λ b. g.P.IndexProtocol.index b) c.in-Some.ensures.base)
    c.in-Some.ensures.change
    c.deref.ensures.value
    c.deref-2.ensures.value
    (c.in_ok-lets_through.ensures.0 c.if-not-branch.false)
