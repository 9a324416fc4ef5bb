use Rattle.std.proofs.Common.{◌≡◌, ◌∙◌, ap, subst, false, IfOk, IsTrue}
use Rattle.std.proofs.lemmas.Result.{IfOk-weaker}
use Rattle.kr_model.specs.Protocol.{Protocol}
use Rattle.kr_change.specs.Changes.{changed}
use Rattle.kr_change.specs.GhostChanges.{changed_index}
use Rattle.kr_alike.specs.Alike.{Alike}
use Rattle.kr_kinds.specs.Kinds.{IndexProtocol, Gone, leaves_ghosts}
use Rattle.kr_stepping.proofs.EitherRuns.{is_gone}
use Rattle.kr_suite_core.specs.Alike.{AlikeIndexes}
use Rattle.kr_suite_core.proofs.AlikeKind.{alike_gone}
use Rattle.kr_suite_core.proofs.judged.is_alike.Goals as goal

pub returns-in-Some : goal.returns-in-Some
returns-in-Some g c =
    let p : Protocol = g.P.Protocol.table c.args.protocol.now in
    let x : IndexProtocol = g.P.IndexProtocol.index c.args.protocol.now in
    let plain : leaves_ghosts x ≡ false = (let a = c.leaves_ghosts.ensures in let b = c.if-leaves_ghosts.false in cc) in
    let kind : Gone p ≡ x = is_gone x _ _ (g.met.P.IndexProtocol.has_tables c.args.protocol.now) plain in
    let base : g.P.Protocol.table c.in-Some.changed.base.now ≡ p = ap g.P.Protocol.table c.in-Some.ensures.base in
    let same : changed (g.P.Protocol.table c.in-Some.changed.base.now) c.in-Some.changed.change ≡ changed p c.args.change = ap (λ (q : Protocol). changed q c.in-Some.changed.change) base ∙ ap (changed p) c.in-Some.ensures.change in
    subst (λ (y : IndexProtocol). IfOk c.alike.result (λ yes. IsTrue yes → AlikeIndexes y (changed_index y c.args.change))) kind
    (IfOk-weaker c.alike.result (λ yes. IsTrue yes → Alike p (changed p c.args.change)) (λ yes. IsTrue yes → AlikeIndexes (Gone p) (Gone (changed p c.args.change))) (λ yes alike h. alike_gone p (changed p c.args.change) (λ opening events is_map. alike h opening events))
    (subst (λ (q : Protocol). IfOk c.alike.result (λ yes. IsTrue yes → Alike p q)) same c.alike.ensures.alike))
