use Rattle.std.proofs.Common.{◌≡◌, ◌∙◌, rules, sym, true, false}
use Rattle.kr_model.specs.Covers.{IsCovered, failed_cases}
use Rattle.kr_decide.specs.Survey as survey
use Rattle.kr_explain_core.specs.Explained.{AreFailures}
use Rattle.kr_explain_core.proofs.Outcomes.{accepted_told, not_true, safe_told, rejected_told}
use Rattle.kr_explain_core.proofs.explaining.explain.Goals as goal

pub returns-in-Ok : goal.returns-in-Ok
returns-in-Ok g c =
    let p = g.P.Protocol.table c.args.protocol.now in
    accepted_told p c.cases.result (g.met.P.Protocol.lawful c.args.protocol.now) (c.in-Ok.ensures.exactly.0 (search rules)) (sym (c.cases.ensures p (sym c.count.ensures) (sym c.updates.ensures)))

pub returns-then-is_safe : goal.returns-then-is_safe
returns-then-is_safe g c =
    let p = g.P.Protocol.table c.args.protocol.now in
    let f = c.in_ok-failures-in-Failed.failures in
    let uncovered : IsCovered p → ⊥ = λ covered. not_true (c.in-Err.ensures.exactly.1 covered) in
    let found : survey.is_safe f.survey ≡ true = sym c.is_safe.ensures ∙ c.if-is_safe.true in
    let are : AreFailures p (failed_cases p) f = search rules in
    safe_told p f uncovered found are

pub returns-in-Failed : goal.returns-in-Failed
returns-in-Failed g c =
    let p = g.P.Protocol.table c.args.protocol.now in
    let f = c.in_ok-failures-in-Failed.failures in
    let uncovered : IsCovered p → ⊥ = λ covered. not_true (c.in-Err.ensures.exactly.1 covered) in
    let found : survey.is_safe f.survey ≡ false = sym c.is_safe.ensures ∙ c.if-is_safe.false in
    let are : AreFailures p (failed_cases p) f = search rules in
    rejected_told p f uncovered found are
