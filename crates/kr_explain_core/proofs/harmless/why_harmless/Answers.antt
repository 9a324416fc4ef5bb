use Rattle.std.proofs.Common.{refl}
use Rattle.kr_explain_core.proofs.Clear.{harmless_by, false_not_true}
use Rattle.kr_explain_core.proofs.harmless.why_harmless.Goals as goal

pub returns-then-is_harmless-clause-exactly : goal.returns-then-is_harmless-clause-exactly
returns-then-is_harmless-clause-exactly g c =
    let both = harmless_by (g.P.Protocol.table c.args.protocol.now) c.args.survey.now c.args.failed.now c.args.cases.now c.requires in
    ((λ _. both.0 (c.is_harmless.ensures.0 c.if-is_harmless.true)), (λ _. refl))

pub returns-else-is_harmless-clause-exactly : goal.returns-else-is_harmless-clause-exactly
returns-else-is_harmless-clause-exactly g c =
    let both = harmless_by (g.P.Protocol.table c.args.protocol.now) c.args.survey.now c.args.failed.now c.args.cases.now c.requires in
    ((λ e. absurd cc), (λ harmless. absurd (false_not_true c.if-is_harmless.false (c.is_harmless.ensures.1 (both.1 harmless)))))
