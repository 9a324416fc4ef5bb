use Rattle.std.proofs.Common.{sym, ◌∙◌, ap}
use Rattle.std.specs.Prelude.{cond}
use Rattle.kr_model.specs.declared.Op.TheVariants as op
use Rattle.kr_trace_follow.proofs.StepLaws.{begins}
use Rattle.kr_trace_follow.proofs.steps.first_op.Goals as goal

pub returns-then-is_same_scan : goal.returns-then-is_same_scan
returns-then-is_same_scan c = λ s n are.
    ap (λ b. cond b op.Go c.taken-op.result) (sym c.if-is_same_scan.true)
    ∙ begins s n c.args.event c.args.observed.now c.args.scans.now c.noted_of-progress.result c.taken-op.result c.is_same_scan.result are c.noted_of-progress.ensures c.taken-op.ensures c.is_same_scan.ensures

pub returns : goal.returns
returns c = λ s n are.
    ap (λ b. cond b op.Go c.taken-op.result) (sym c.if-is_same_scan.false)
    ∙ begins s n c.args.event c.args.observed.now c.args.scans.now c.noted_of-progress.result c.taken-op.result c.is_same_scan.result are c.noted_of-progress.ensures c.taken-op.ensures c.is_same_scan.ensures
