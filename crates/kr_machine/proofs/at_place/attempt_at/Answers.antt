use Rattle.std.proofs.Common.{◌≡◌, Option, Some, None, true, ap, sym, subst, refl, ◌∙◌, option_map, option_copied, unwrap_or}
use Rattle.std.specs.Fn.{FnOnceReturnsAt}
use Rattle.std.specs.Prelude.{Err}
use mathlib.Core.Bool.{false≢true}
use Rattle.std.specs.Ordering.{nat_cmp}
use Rattle.std.specs.FinMap.{find}
use Rattle.kr_model.specs.Locks.{blockers}
use Rattle.kr_model.specs.Plan.{plan_by, plan_of, requests}
use Rattle.kr_model.specs.Run.{is_granted}
use Rattle.kr_model.specs.Step.{step}
use Rattle.kr_model.specs.State.{State, Active, idle}
use Rattle.kr_txn.specs.declared.Standing.{Standing}
use Rattle.kr_txn.specs.Standings.{active_of, entries, number_of, scan_of}
use Rattle.kr_txn.proofs.Lists.{found}
use Rattle.kr_touch.specs.Parts.{op_of_touch}
use Rattle.kr_touch.specs.Attempts.{attempt_of}
use Rattle.kr_touch.specs.Effects.{reply_of, rows_of}
use Rattle.kr_machine.specs.Pending.{shown}
use Rattle.kr_machine.proofs.AtOnce.{attempts_nothing, is_blocked, not_granted, lacks_or_declined, lacks_memory, answers, at_once}
use Rattle.kr_machine.proofs.at_place.attempt_at.Goals as goal

pub returns-in_default-clause-not_done : goal.returns-in_default-clause-not_done
returns-in_default-clause-not_done g c =
    let p = g.P.Protocol.table c.args.protocol.now in
    let m = g.I.Ordered.map c.args.index.now in
    let h = g.L.Holdings.locks c.args.locks.now in
    let t = c.args.txn in
    let o = op_of_touch c.args.touch in
    let es = entries c.args.active.now.items in
    let s : State = shown None m h c.args.ended.now.numbers es in
    let at = c.requires.place in
    let scan : option_map scan_of (option_copied c.as_ref-scan.result) ≡ (unwrap_or (find nat_cmp t es) idle).scan = ap (option_map scan_of) c.as_ref-scan.ensures.value ∙ ap (λ (z : Standing). option_map scan_of z.scan) c.index.ensures
    ∙ sym (ap (λ (x : Option Active). (unwrap_or x idle).scan) (found number_of active_of t c.args.active.now.items c.args.place at.within at.others at.here c.index.result.now)) in
    (attempts_nothing p s t c.args.touch c.requires.allowed (ap (λ x. attempt_of m x o) (sym scan) ∙ c.in_default.ensures.none), refl)

pub returns-then-not-granted-clause-not_done : goal.returns-then-not-granted-clause-not_done
returns-then-not-granted-clause-not_done g c =
    let p = g.P.Protocol.table c.args.protocol.now in
    let m = g.I.Ordered.map c.args.index.now in
    let h = g.L.Holdings.locks c.args.locks.now in
    let t = c.args.txn in
    let o = op_of_touch c.args.touch in
    let es = entries c.args.active.now.items in
    let s : State = shown None m h c.args.ended.now.numbers es in
    let at = c.requires.place in
    let scan : option_map scan_of (option_copied c.as_ref-scan.result) ≡ (unwrap_or (find nat_cmp t es) idle).scan = ap (option_map scan_of) c.as_ref-scan.ensures.value ∙ ap (λ (z : Standing). option_map scan_of z.scan) c.index.ensures
    ∙ sym (ap (λ (x : Option Active). (unwrap_or x idle).scan) (found number_of active_of t c.args.active.now.items c.args.place at.within at.others at.here c.index.result.now)) in
    let is : attempt_of m (unwrap_or (find nat_cmp t es) idle).scan o ≡ Some c.in-Some.sight.attempt = ap (λ x. attempt_of m x o) (sym scan) ∙ c.in-Some.ensures.attempt in
    let is_plan : c.plan-plan.result ≡ plan_of p m h t c.in-Some.sight.attempt = c.plan-plan.ensures.plan ∙ ap (plan_by p h t) c.in-Some.ensures.sight.access in (
      is_blocked p s t c.args.touch c.requires.allowed c.in-Some.sight.attempt is c.plan-plan.result is_plan c.blocked.result (λ none. false≢true (sym c.if-not-granted.true ∙ c.granted.ensures.1 none)) c.blocked.ensures,
      not_granted c.blocked.result (blockers p h t (requests c.plan-plan.result)) c.blocked.ensures,
    )

pub do_at-requires-clause-attempt : goal.do_at-requires-clause-attempt
do_at-requires-clause-attempt g c =
    let m = g.I.Ordered.map c.args.index.now in
    let t = c.args.txn in
    let o = op_of_touch c.args.touch in
    let es = entries c.args.active.now.items in
    let at = c.requires.place in
    let scan : option_map scan_of (option_copied c.as_ref-scan.result) ≡ (unwrap_or (find nat_cmp t es) idle).scan = ap (option_map scan_of) c.as_ref-scan.ensures.value ∙ ap (λ (z : Standing). option_map scan_of z.scan) c.index.ensures
    ∙ sym (ap (λ (x : Option Active). (unwrap_or x idle).scan) (found number_of active_of t c.args.active.now.items c.args.place at.within at.others at.here c.index.result.now)) in
    ap (λ x. attempt_of m x o) (sym scan) ∙ c.in-Some.ensures.attempt

pub returns-in-Ok-clause-step : goal.returns-in-Ok-clause-step
returns-in-Ok-clause-step g c =
    let p = g.P.Protocol.table c.args.protocol.now in
    let m = g.I.Ordered.map c.args.index.now in
    let h = g.L.Holdings.locks c.args.locks.now in
    let t = c.args.txn in
    let o = op_of_touch c.args.touch in
    let es = entries c.args.active.now.items in
    let s : State = shown None m h c.args.ended.now.numbers es in
    let at = c.requires.place in
    let scan : option_map scan_of (option_copied c.as_ref-scan.result) ≡ (unwrap_or (find nat_cmp t es) idle).scan = ap (option_map scan_of) c.as_ref-scan.ensures.value ∙ ap (λ (z : Standing). option_map scan_of z.scan) c.index.ensures
    ∙ sym (ap (λ (x : Option Active). (unwrap_or x idle).scan) (found number_of active_of t c.args.active.now.items c.args.place at.within at.others at.here c.index.result.now)) in
    let is : attempt_of m (unwrap_or (find nat_cmp t es) idle).scan o ≡ Some c.in-Some.sight.attempt = ap (λ x. attempt_of m x o) (sym scan) ∙ c.in-Some.ensures.attempt in
    let is_plan : c.plan-plan.result ≡ plan_of p m h t c.in-Some.sight.attempt = c.plan-plan.ensures.plan ∙ ap (plan_by p h t) c.in-Some.ensures.sight.access in
    let a = c.in-Some.sight.attempt in
    at_once p s t c.args.touch c.requires.allowed a is c.plan-plan.result is_plan c.in_ok-reply.reply (g.I.Ordered.map c.do_at.new.index) (g.L.Holdings.locks c.do_at.new.locks) (entries c.do_at.new.active.items)
    (c.granted.ensures.0 c.if-not-granted.false) (c.in_ok-reply.ensures.reply m c.in-Some.ensures.sight.value ∙ ap (λ x. reply_of m (rows_of x) a) scan)
    c.in-Ok.ensures.map c.in-Ok.ensures.locks c.in-Ok.ensures.active

pub returns-in-Err-clause-not_done : goal.returns-in-Err-clause-not_done
returns-in-Err-clause-not_done g c =
    let p = g.P.Protocol.table c.args.protocol.now in
    let m = g.I.Ordered.map c.args.index.now in
    let h = g.L.Holdings.locks c.args.locks.now in
    let t = c.args.txn in
    let o = op_of_touch c.args.touch in
    let es = entries c.args.active.now.items in
    let s : State = shown None m h c.args.ended.now.numbers es in
    let at = c.requires.place in
    let scan : option_map scan_of (option_copied c.as_ref-scan.result) ≡ (unwrap_or (find nat_cmp t es) idle).scan = ap (option_map scan_of) c.as_ref-scan.ensures.value ∙ ap (λ (z : Standing). option_map scan_of z.scan) c.index.ensures
    ∙ sym (ap (λ (x : Option Active). (unwrap_or x idle).scan) (found number_of active_of t c.args.active.now.items c.args.place at.within at.others at.here c.index.result.now)) in
    let is : attempt_of m (unwrap_or (find nat_cmp t es) idle).scan o ≡ Some c.in-Some.sight.attempt = ap (λ x. attempt_of m x o) (sym scan) ∙ c.in-Some.ensures.attempt in
    let is_plan : c.plan-plan.result ≡ plan_of p m h t c.in-Some.sight.attempt = c.plan-plan.ensures.plan ∙ ap (plan_by p h t) c.in-Some.ensures.sight.access in
    let a = c.in-Some.sight.attempt in
    let told : c.in_ok-reply.reply ≡ (step p s t o).0 = answers p s t c.args.touch c.requires.allowed a is c.plan-plan.result is_plan c.in_ok-reply.reply (c.granted.ensures.0 c.if-not-granted.false) (c.in_ok-reply.ensures.reply m c.in-Some.ensures.sight.value ∙ ap (λ x. reply_of m (rows_of x) a) scan) in
    let granted : is_granted (step p s t o).0 ≡ true = sym (ap is_granted told) ∙ c.in_ok-reply.ensures.granted in
    lacks_or_declined p s t o _ _ c.in-Err.why (lacks_memory p s t c.args.touch c.requires.allowed) granted (λ e is. subst (λ r. FnOnceReturnsAt g.F.FnOnce c.args.accept r (Err e)) told is) c.in-Err.ensures.not_done
