use Rattle.std.proofs.Common.{◌≡◌, ap, sym, ◌∙◌, subst, None, Some, option_map, option_copied, unwrap_or, arith}
use Rattle.std.proofs.lemmas.Grind.{common_steps}
use mathlib.Core.Bool.{false≢true}
use Rattle.std.specs.Ordering.{nat_cmp}
use Rattle.std.specs.FinMap.{find}
use Rattle.kr_model.specs.Locks.{blockers}
use Rattle.kr_model.specs.Plan.{plan_by, plan_of, requests}
use Rattle.kr_model.specs.State.{State, standing, idle}
use Rattle.kr_model.specs.Step.{IsStep, refusal_of, step}
use Rattle.kr_model.specs.declared.Reply.TheVariants as reply
use Rattle.kr_model.specs.declared.Refusal.TheVariants as refusal
use Rattle.kr_txn.specs.Standings.{entries, scan_of}
use Rattle.kr_touch.specs.Parts.{op_of_touch}
use Rattle.kr_machine.specs.Pending.{shown}
use Rattle.kr_touch.specs.Attempts.{attempt_of}
use Rattle.kr_touch.specs.Effects.{rows_of, reply_of}
use Rattle.kr_machine.proofs.AtOnce.{is_blocked, lacks_memory, not_granted}
use Rattle.kr_machine.proofs.Steps.{nothing_open, granted_reply}
use Rattle.kr_machine.proofs.stepper.Stepper.attempt.Goals as goal

pub returns-then-not-granted-clause-refusal : goal.returns-then-not-granted-clause-refusal
returns-then-not-granted-clause-refusal g c =
    let p = g.P.Protocol.table c.self.inside.protocol in
    let m = g.I.Ordered.map c.self.inside.index in
    let h = g.L.Holdings.locks c.self.inside.locks in
    let rest : c.self.inside.pending ≡ None = nothing_open (λ p. p.event) c.self.inside.pending (ap (λ v. v.pending) c.self.view_is ∙ c.requires.at_rest) in
    let s : State = shown None m h c.self.inside.ended.numbers (entries c.self.inside.active.items) in
    let same : s ≡ c.args.self.now.state = ap (λ o. shown o m h c.self.inside.ended.numbers (entries c.self.inside.active.items)) (sym rest) ∙ ap (λ v. v.state) c.self.view_is in
    let allowed : refusal_of p s c.args.txn (op_of_touch c.args.touch) ≡ None = subst (λ q. refusal_of (g.P.Protocol.table q) s c.args.txn (op_of_touch c.args.touch) ≡ None) (sym (ap (λ v. v.protocol) c.self.view_is))
    (subst (λ x. refusal_of (g.P.Protocol.table c.args.self.now.protocol) x c.args.txn (op_of_touch c.args.touch) ≡ None) (sym same) c.requires.allowed) in
    let scan : option_map scan_of (option_copied c.scan_of-scan.result) ≡ (standing s c.args.txn).scan = c.scan_of-scan.ensures ∙ ap (λ xs. (unwrap_or (find nat_cmp c.args.txn (entries xs)) idle).scan) c.deref.ensures.value in
    let asks : attempt_of m (standing s c.args.txn).scan (op_of_touch c.args.touch) ≡ Some c.in-Some.sight.attempt = ap (λ x. attempt_of m x (op_of_touch c.args.touch)) (sym scan) ∙ c.in-Some.ensures.attempt in
    let is_plan : c.plan-plan.result ≡ plan_of p m h c.args.txn c.in-Some.sight.attempt = c.plan-plan.ensures.plan ∙ ap (plan_by p h c.args.txn) c.in-Some.ensures.sight.access in
    let refused = is_blocked p s c.args.txn c.args.touch allowed c.in-Some.sight.attempt asks c.plan-plan.result is_plan c.blocked.result (λ none. false≢true (sym c.if-not-granted.true ∙ c.granted.ensures.1 none)) c.blocked.ensures in
    subst (λ q. IsStep (g.P.Protocol.table q) c.args.self.now.state c.args.txn (op_of_touch c.args.touch) c.blocked.result c.args.self.now.state) (ap (λ v. v.protocol) c.self.view_is)
    (subst (λ x. IsStep p x c.args.txn (op_of_touch c.args.touch) c.blocked.result x) same refused)

pub returns-then-not-granted-clause-not_granted : goal.returns-then-not-granted-clause-not_granted
returns-then-not-granted-clause-not_granted g c = not_granted c.blocked.result (blockers (g.P.Protocol.table c.self.inside.protocol) (g.L.Holdings.locks c.self.inside.locks) c.args.txn (requests c.plan-plan.result)) c.blocked.ensures

pub reserve-requires-clause-allowed : goal.reserve-requires-clause-allowed
reserve-requires-clause-allowed g c =
    let m = g.I.Ordered.map c.self.inside.index in
    let h = g.L.Holdings.locks c.self.inside.locks in
    let rest : c.self.inside.pending ≡ None = nothing_open (λ p. p.event) c.self.inside.pending (ap (λ v. v.pending) c.self.view_is ∙ c.requires.at_rest) in
    let s : State = shown None m h c.self.inside.ended.numbers (entries c.self.inside.active.items) in
    let same : s ≡ c.args.self.now.state = ap (λ o. shown o m h c.self.inside.ended.numbers (entries c.self.inside.active.items)) (sym rest) ∙ ap (λ v. v.state) c.self.view_is in
    subst (λ q. refusal_of (g.P.Protocol.table q) s c.args.txn (op_of_touch c.args.touch) ≡ None) (sym (ap (λ v. v.protocol) c.self.view_is))
    (subst (λ x. refusal_of (g.P.Protocol.table c.args.self.now.protocol) x c.args.txn (op_of_touch c.args.touch) ≡ None) (sym same) c.requires.allowed)

pub returns-in-Ok-reserve-clause-reply : goal.returns-in-Ok-reserve-clause-reply
returns-in-Ok-reserve-clause-reply g c =
    let p = g.P.Protocol.table c.self.inside.protocol in
    let m = g.I.Ordered.map c.self.inside.index in
    let h = g.L.Holdings.locks c.self.inside.locks in
    let rest : c.self.inside.pending ≡ None = nothing_open (λ p. p.event) c.self.inside.pending (ap (λ v. v.pending) c.self.view_is ∙ c.requires.at_rest) in
    let s : State = shown None m h c.self.inside.ended.numbers (entries c.self.inside.active.items) in
    let same : s ≡ c.args.self.now.state = ap (λ o. shown o m h c.self.inside.ended.numbers (entries c.self.inside.active.items)) (sym rest) ∙ ap (λ v. v.state) c.self.view_is in
    let allowed : refusal_of p s c.args.txn (op_of_touch c.args.touch) ≡ None = subst (λ q. refusal_of (g.P.Protocol.table q) s c.args.txn (op_of_touch c.args.touch) ≡ None) (sym (ap (λ v. v.protocol) c.self.view_is))
    (subst (λ x. refusal_of (g.P.Protocol.table c.args.self.now.protocol) x c.args.txn (op_of_touch c.args.touch) ≡ None) (sym same) c.requires.allowed) in
    let scan : option_map scan_of (option_copied c.scan_of-scan.result) ≡ (standing s c.args.txn).scan = c.scan_of-scan.ensures ∙ ap (λ xs. (unwrap_or (find nat_cmp c.args.txn (entries xs)) idle).scan) c.deref.ensures.value in
    let asks : attempt_of m (standing s c.args.txn).scan (op_of_touch c.args.touch) ≡ Some c.in-Some.sight.attempt = ap (λ x. attempt_of m x (op_of_touch c.args.touch)) (sym scan) ∙ c.in-Some.ensures.attempt in
    let is_plan : c.plan-plan.result ≡ plan_of p m h c.args.txn c.in-Some.sight.attempt = c.plan-plan.ensures.plan ∙ ap (plan_by p h c.args.txn) c.in-Some.ensures.sight.access in
    c.in-Ok.ensures.reply m c.in-Some.ensures.sight.value
    ∙ ap (λ x. reply_of m (rows_of x) c.in-Some.sight.attempt) scan
    ∙ granted_reply p s c.args.txn c.args.touch c.in-Some.sight.attempt c.plan-plan.result allowed asks is_plan (c.granted.ensures.0 c.if-not-granted.false)
    ∙ ap (λ x. (step p x c.args.txn (op_of_touch c.args.touch)).0) same ∙ ap (λ v. (step (g.P.Protocol.table v.protocol) c.args.self.now.state c.args.txn (op_of_touch c.args.touch)).0) c.self.view_is

pub returns-in-Err-clause-refusal : goal.returns-in-Err-clause-refusal
returns-in-Err-clause-refusal g c = grind (arith, common_steps)

pub reserve-requires-clause-at_rest : goal.reserve-requires-clause-at_rest
reserve-requires-clause-at_rest g c = grind (arith, common_steps)

pub returns-in-Ok-reserve-clause-waits : goal.returns-in-Ok-reserve-clause-waits
returns-in-Ok-reserve-clause-waits g c = grind (arith, common_steps)

pub returns-in-Err-reserve-clause-refusal : goal.returns-in-Err-reserve-clause-refusal
returns-in-Err-reserve-clause-refusal g c =
    let p = g.P.Protocol.table c.self.inside.protocol in
    let m = g.I.Ordered.map c.self.inside.index in
    let h = g.L.Holdings.locks c.self.inside.locks in
    let rest : c.self.inside.pending ≡ None = nothing_open (λ p. p.event) c.self.inside.pending (ap (λ v. v.pending) c.self.view_is ∙ c.requires.at_rest) in
    let s : State = shown None m h c.self.inside.ended.numbers (entries c.self.inside.active.items) in
    let same : s ≡ c.args.self.now.state = ap (λ o. shown o m h c.self.inside.ended.numbers (entries c.self.inside.active.items)) (sym rest) ∙ ap (λ v. v.state) c.self.view_is in
    let allowed : refusal_of p s c.args.txn (op_of_touch c.args.touch) ≡ None = subst (λ q. refusal_of (g.P.Protocol.table q) s c.args.txn (op_of_touch c.args.touch) ≡ None) (sym (ap (λ v. v.protocol) c.self.view_is))
    (subst (λ x. refusal_of (g.P.Protocol.table c.args.self.now.protocol) x c.args.txn (op_of_touch c.args.touch) ≡ None) (sym same) c.requires.allowed) in
    subst (λ q. IsStep (g.P.Protocol.table q) c.args.self.now.state c.args.txn (op_of_touch c.args.touch) (reply.Refused refusal.Memory) c.args.self.now.state) (ap (λ v. v.protocol) c.self.view_is)
    (subst (λ x. IsStep p x c.args.txn (op_of_touch c.args.touch) (reply.Refused refusal.Memory) x) same (lacks_memory p s c.args.txn c.args.touch allowed))

pub returns-in-Err-reserve-clause-err : goal.returns-in-Err-reserve-clause-err
returns-in-Err-reserve-clause-err g c = grind (arith, common_steps)
