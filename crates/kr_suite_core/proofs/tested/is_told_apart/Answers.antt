use Rattle.std.proofs.Common.{◌≡◌, ◌∙◌, ◌↔◌, ap, subst, IfOk, IsTrue, List}
use Rattle.std.proofs.lemmas.Result.{IfOk-weaker}
use Rattle.kr_model.specs.declared.Event.{Event}
use Rattle.kr_kinds.specs.Kinds.{IndexProtocol}
use Rattle.kr_model.specs.Map.{Map}
use Rattle.kr_change.specs.GhostChanges.{changed_index}
use Rattle.kr_apart.specs.Apart.{TellsApart}
use Rattle.kr_suite_core.proofs.tested.is_told_apart.Goals as goal

pub returns-in-Some : goal.returns-in-Some
returns-in-Some g c =
    let p : IndexProtocol = g.P.IndexProtocol.index c.args.protocol.now in
    let base : g.P.IndexProtocol.index c.in-Some.changed.base.now ≡ p = ap g.P.IndexProtocol.index c.in-Some.ensures.base in
    let same : changed_index (g.P.IndexProtocol.index c.in-Some.changed.base.now) c.in-Some.changed.change ≡ changed_index p c.args.change = ap (λ (q : IndexProtocol). changed_index q c.in-Some.changed.change) base ∙ ap (changed_index p) c.in-Some.ensures.change in
    let o : Map = c.args.part.now.opening.items in
    let es : List Event = c.args.part.now.events.items in
    let exact : IfOk c.tells_apart.result (λ tells. IsTrue tells ↔ TellsApart p (changed_index p c.args.change) o es) =
    subst (λ (q : IndexProtocol). IfOk c.tells_apart.result (λ tells. IsTrue tells ↔ TellsApart p q o es)) same
    (subst (λ (m : Map). IfOk c.tells_apart.result (λ tells. IsTrue tells ↔ TellsApart p (changed_index (g.P.IndexProtocol.index c.in-Some.changed.base.now) c.in-Some.changed.change) m es)) c.deref.ensures.value
    (subst (λ (fs : List Event). IfOk c.tells_apart.result (λ tells. IsTrue tells ↔ TellsApart p (changed_index (g.P.IndexProtocol.index c.in-Some.changed.base.now) c.in-Some.changed.change) c.deref.result.now fs)) c.deref-in-Some.ensures.value c.tells_apart.ensures)) in
    IfOk-weaker c.tells_apart.result (λ tells. IsTrue tells ↔ TellsApart p (changed_index p c.args.change) o es) (λ tells. IsTrue tells → TellsApart p (changed_index p c.args.change) o es) (λ b both. both.0) exact
