use Rattle.std.proofs.Common.{refl, arith}
use Rattle.kr_relax_core.proofs.Spotting.{none_more, not_used, used_by}
use Rattle.kr_relax_core.proofs.unused.is_used.Goals as goal

pub loop-at-init : goal.loop-at-init
loop-at-init g c = λ k d low. absurd (omega arith)

pub loop-at-preserved : goal.loop-at-preserved
loop-at-preserved g c = none_more (g.P.IndexProtocol.index c.args.protocol.now) c.args.entry c.args.spots.now c.loop-at.at _ c.loop-at-test.true (λ comes. (let a = c.comes_to.ensures.1 comes in let b = c.if-comes_to.false in cc)) c.loop-at.invariant

pub returns-then-comes_to : goal.returns-then-comes_to
returns-then-comes_to g c = ((λ t. used_by (g.P.IndexProtocol.index c.args.protocol.now) c.args.entry c.args.spots.now c.loop-at.at _ c.requires c.loop-at-test.true (c.comes_to.ensures.0 c.if-comes_to.true)), (λ u. refl))

pub returns : goal.returns
returns g c = ((λ t. absurd (cc)), (λ is. absurd (not_used (g.P.IndexProtocol.index c.args.protocol.now) c.args.entry c.args.spots.now c.loop-at.at c.requires (omega arith) c.loop-at.invariant is)))
