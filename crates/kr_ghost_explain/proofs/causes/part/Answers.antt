use Rattle.std.proofs.Common.{ap, ◌∙◌}
use Rattle.kr_ghost_explain.proofs.Sharing.{parted_kept, parted_taken}
use Rattle.kr_ghost_explain.proofs.causes.part.Goals as goal
use Rattle.kr_ghost_explain.proofs.causes.part.Goals.{then-is_same+in_ok-push, else-is_same+in_ok-push-2}

-- one case more is the cause's, or left
pub loop-number-preserved : goal.loop-number-preserved
loop-number-preserved c =
    let l = c.loop-number in
    let after = c.if-is_same in
    elim c.if-is_same.branch [
      | then-is_same+in_ok-push w ↦ parted_taken c.args.left.now _ l.number _ l.cases.items after.cases.items l.rest.items after.rest.items c.loop-number-test.true (c.is_same.ensures w.if-is_same.true) l.invariant (ap (λ v. v.items) w.cases-is ∙ w.in_ok-push.ensures.items) (ap (λ v. v.items) w.rest-is)
      | else-is_same+in_ok-push-2 w ↦ parted_kept c.args.left.now _ l.number _ l.cases.items after.cases.items l.rest.items after.rest.items c.loop-number-test.true l.invariant (ap (λ v. v.items) w.cases-is) (ap (λ v. v.items) w.rest-is ∙ w.in_ok-push-2.ensures.items)
    ]
