use Rattle.std.proofs.Common.{◌≡◌, ◌∙◌, ap, Some}
use Rattle.kr_model.specs.State.{standing}
use Rattle.kr_touch.specs.Attempts.{attempt_of}
use Rattle.kr_trace_follow.specs.Since.{plan_at}
use Rattle.kr_trace_follow.proofs.AttemptLaws.{plan_modes}
use Rattle.kr_trace_follow.proofs.attempts.tests_now.Goals as goal

pub push_side-requires-clause-asked : goal.push_side-requires-clause-asked
push_side-requires-clause-asked g c =
    let p = g.P.Protocol.table c.args.protocol.now in
    let s = c.args.stepper.now.state in
    let is : Some c.in-Some.plan ≡ plan_at p s c.args.txn c.args.op = c.in-Some.ensures ∙ ap (λ z. plan_at z s c.args.txn c.args.op) c.requires.same in
    (plan_modes p (g.met.P.Protocol.lawful c.args.protocol.now) s c.args.txn (attempt_of s.map (standing s c.args.txn).scan c.args.op) c.in-Some.plan c.requires.well_formed is).0

pub push_side-requires-in-Some-clause-asked : goal.push_side-requires-in-Some-clause-asked
push_side-requires-in-Some-clause-asked g c =
    let p = g.P.Protocol.table c.args.protocol.now in
    let s = c.args.stepper.now.state in
    let is : Some c.in-Some.plan ≡ plan_at p s c.args.txn c.args.op = c.in-Some.ensures ∙ ap (λ z. plan_at z s c.args.txn c.args.op) c.requires.same in
    (plan_modes p (g.met.P.Protocol.lawful c.args.protocol.now) s c.args.txn (attempt_of s.map (standing s c.args.txn).scan c.args.op) c.in-Some.plan c.requires.well_formed is).1
