use Rattle.std.proofs.Common.{List, ◌++◌, ◌∙◌, ap, sym}
use Rattle.std.proofs.lemmas.List.{append-nil}
use Rattle.kr_model.specs.declared.Op.{Op}
use Rattle.kr_model.specs.declared.Op.TheVariants.{Abort}
use Rattle.kr_workers.specs.declared.wanted.Fate.TheVariants.{Stuck}
use Rattle.kr_workers.proofs.Operations.{done_next, done_more, missed_more}
use Rattle.kr_workers.proofs.wanted.not_missed.Goals.{in-Done+in_ok-push-in-Done, in-Missed}
use Rattle.kr_workers.proofs.wanted.not_missed.Goals as goal

pub returns-in-Stuck : goal.returns-in-Stuck
returns-in-Stuck c =
    sym (append-nil c.loop-i.list.items)
    ∙ ap (λ (os : List Op). c.loop-i.list.items ++ os) (sym (done_next c.args.faults.now c.args.txn c.loop-i.i c.args.ops.now Abort Stuck c.loop-i-test.true (sym c.in-Stuck.is ∙ c.fate_at.ensures)))
    ∙ c.loop-i.invariant

pub loop-i-preserved : goal.loop-i-preserved
loop-i-preserved c = elim c.match-fate_at.branch [
  | in-Done+in_ok-push-in-Done w ↦ done_more c.args.faults.now c.args.txn c.loop-i.i c.args.ops.now _ c.loop-i.list.items c.match-fate_at.list.items c.loop-i-test.true (sym w.in-Done.is ∙ c.fate_at.ensures) (ap (λ v. v.items) w.list-is ∙ w.in_ok-push-in-Done.ensures.items) c.loop-i.invariant
  | in-Missed w ↦ missed_more c.args.faults.now c.args.txn c.loop-i.i c.args.ops.now Abort c.loop-i.list.items c.match-fate_at.list.items c.loop-i-test.true (sym w.in-Missed.is ∙ c.fate_at.ensures) (ap (λ v. v.items) w.list-is) c.loop-i.invariant
]
