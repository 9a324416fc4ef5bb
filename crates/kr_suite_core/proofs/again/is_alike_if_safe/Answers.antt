use Rattle.std.proofs.Common.{◌≡◌, ◌∙◌, ap, subst, IfOk, IsTrue}
use Rattle.std.proofs.lemmas.Result.{IfOk-weaker}
use Rattle.kr_model.specs.Protocol.{Protocol}
use Rattle.kr_change.specs.Changes.{changed}
use Rattle.kr_alike.specs.Coming.{AlikeOnMaps}
use Rattle.kr_kinds.specs.Kinds.{Gone}
use Rattle.kr_suite_core.specs.Alike.{AlikeIndexes}
use Rattle.kr_suite_core.proofs.AlikeKind.{alike_gone}
use Rattle.kr_suite_core.proofs.again.is_alike_if_safe.Goals as goal

pub returns-in-Some : goal.returns-in-Some
returns-in-Some g c =
    let p : Protocol = g.P.Protocol.table c.args.protocol.now in
    let base : g.P.Protocol.table c.in-Some.changed.base.now.0.now ≡ p = ap (λ b. g.P.Protocol.table b.0.now) c.in-Some.ensures.base in
    let same : changed (g.P.Protocol.table c.in-Some.changed.base.now.0.now) c.in-Some.changed.change ≡ changed p c.args.change = ap (λ (q : Protocol). changed q c.in-Some.changed.change) base ∙ ap (changed p) c.in-Some.ensures.change in
    IfOk-weaker c.alike_if_safe.result (λ yes. IsTrue yes → AlikeOnMaps p (changed p c.args.change)) (λ yes. IsTrue yes → AlikeIndexes (Gone p) (Gone (changed p c.args.change))) (λ yes alike h. alike_gone p (changed p c.args.change) (alike h))
    (subst (λ (q : Protocol). IfOk c.alike_if_safe.result (λ yes. IsTrue yes → AlikeOnMaps p q)) same c.alike_if_safe.ensures.alike)
