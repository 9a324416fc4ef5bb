use Rattle.std.proofs.Common.{◌≡◌, false, cond, sym, ◌∙◌, ap, subst, arith}
use Rattle.std.proofs.lemmas.List.{get_or_read}
use Rattle.kr_script.specs.declared.not_done.WhyNotDone.{WhyNotDone}
use Rattle.kr_script.specs.declared.not_done.StepFault.{StepFault}
use Rattle.kr_workers.specs.declared.wanted.Fate.TheVariants.{Stuck, Missed}
use Rattle.kr_workers.specs.Follows.{is_of, is_deadlock}
use Rattle.kr_workers.proofs.FaultPlaces.{fate_done, fate_there}
use Rattle.kr_workers.proofs.wanted.fate_at.Goals as goal

pub returns-then-place-faults : goal.returns-then-place-faults
returns-then-place-faults c = fate_done c.args.faults.now c.args.txn c.args.step c.place_of-place.result c.requires c.place_of-place.ensures (λ within d. absurd (omega (arith, c.if-place-faults.true)))

pub returns-then-not-is_of : goal.returns-then-not-is_of
returns-then-not-is_of c =
    fate_done c.args.faults.now c.args.txn c.args.step c.place_of-place.result c.requires c.place_of-place.ensures
    (λ within d.
    subst (λ (f : StepFault). is_of c.args.txn c.args.step f ≡ false) (get_or_read c.args.faults.now c.place_of-place.result c.index-faults-place.result within c.index-faults-place.is d)
    (sym c.is_of.ensures ∙ c.if-not-is_of.true))

pub returns-in-Refused : goal.returns-in-Refused
returns-in-Refused c =
    sym
    (fate_there c.args.faults.now c.args.txn c.args.step c.place_of-place.result c.requires c.place_of-place.ensures c.index-faults-place.result (omega (arith, c.place_of-place.ensures.within, c.if-place-faults.false)) c.index-faults-place.is
    (sym c.is_of.ensures ∙ c.if-not-is_of.false)
    ∙ ap (λ (k : WhyNotDone). cond (is_deadlock k) Stuck Missed) c.in-Refused.is)
