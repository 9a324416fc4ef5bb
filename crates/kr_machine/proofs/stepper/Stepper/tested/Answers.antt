use Rattle.std.proofs.Common.{◌≡◌, ◌∙◌, ap, sym, subst, refl, false, Option, Some, None, [], is_some}
use Rattle.kr_model.specs.declared.Refusal.{Refusal}
use Rattle.kr_model.specs.Step.{refusal_of}
use Rattle.kr_txn.specs.Standings.{entries}
use Rattle.kr_machine.specs.Pending.{shown}
use Rattle.kr_machine.proofs.Blocked.{requested_names}
use Rattle.kr_machine.proofs.Steps.{nothing_open}
use Rattle.kr_machine.proofs.stepper.Stepper.tested.Goals as goal

no_refusal : (r : Option Refusal) → is_some r ≡ false → r ≡ None
no_refusal None h = refl
no_refusal (Some r) h = absurd (cc)

pub returns-clause-some : goal.returns-clause-some
returns-clause-some g c =
    let m = g.I.Ordered.map c.self.inside.index in
    let h = g.L.Holdings.locks c.self.inside.locks in
    let rest = nothing_open (λ p. p.event) c.self.inside.pending (ap (λ v. v.pending) c.self.view_is ∙ c.requires) in
    let same : shown None m h c.self.inside.ended.numbers (entries c.self.inside.active.items) ≡ c.args.self.now.state = ap (λ o. shown o m h c.self.inside.ended.numbers (entries c.self.inside.active.items)) (sym rest) ∙ ap (λ v. v.state) c.self.view_is in
    let none : c.refusal-refusal.result ≡ None = no_refusal c.refusal-refusal.result (sym c.is_some.ensures ∙ c.if-is_some.false) in
    let allowed : refusal_of (g.P.Protocol.table c.args.self.now.protocol) c.args.self.now.state c.args.txn c.args.op ≡ None =
    subst (λ q. refusal_of (g.P.Protocol.table q) c.args.self.now.state c.args.txn c.args.op ≡ None) (ap (λ v. v.protocol) c.self.view_is)
    (subst (λ x. refusal_of (g.P.Protocol.table c.self.inside.protocol) x c.args.txn c.args.op ≡ None) same
    (subst (λ xs. refusal_of (g.P.Protocol.table c.self.inside.protocol) (shown None [] [] c.self.inside.ended.numbers (entries xs)) c.args.txn c.args.op ≡ None) c.deref.ensures.value (sym c.refusal-refusal.ensures ∙ none))) in
    requested_names (g.P.Protocol.table c.args.self.now.protocol) c.args.self.now.state c.args.txn c.args.op c.requested.result allowed c.requested.ensures.plan
