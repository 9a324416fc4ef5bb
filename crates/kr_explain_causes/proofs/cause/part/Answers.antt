use Rattle.std.proofs.Common.{◌∙◌, ap, sym, subst, length, ◌<◌, List, All}
use Rattle.kr_model.specs.declared.FailedCase.{FailedCase}
use Rattle.kr_explain_causes.specs.Shares.{IsNamedFor}
use Rattle.kr_explain_causes.proofs.Named.{leader_names, named_next, in_order_taken, in_order_kept}
use Rattle.kr_explain_causes.proofs.Sharing.{taken_next, kept_next, some_more, leader_before}
use Rattle.kr_explain_causes.proofs.cause.part.Goals as goal
use Rattle.kr_explain_causes.proofs.cause.part.Goals.{then-name+in_ok-push, else-name+in_ok-push-2}

-- one suspect more is explained, or left
pub loop-number-preserved : goal.loop-number-preserved
loop-number-preserved c =
    let l = c.loop-number in
    let suspects = c.args.suspects.now in
    let low = c.loop-number-test.true in
    let after = c.if-name in
    elim c.if-name.branch [
      | then-name+in_ok-push w ↦
          let more = ap (λ v. v.items) w.explained-is ∙ w.in_ok-push.ensures.items in
          let same = ap (λ v. v.items) w.left-is in
          let parts = in_order_taken suspects l.number _ l.explained.items after.explained.items l.left.items after.left.items low l.invariant.explained l.invariant.left more same in
          record {
            same = taken_next suspects l.number _ l.explained.items after.explained.items l.left.items after.left.items low l.invariant.same more same;
            some = λ _. some_more l.explained.items after.explained.items _ more;
            named = named_next suspects c.args.leader.blame l.number _ l.explained.items after.explained.items low (c.name.ensures.0 w.if-name.true) l.invariant.named more;
            explained = parts.0;
            left = parts.1;
          }
      | else-name+in_ok-push-2 w ↦
          let same = ap (λ v. v.items) w.explained-is in
          let more = ap (λ v. v.items) w.left-is ∙ w.in_ok-push-2.ensures.items in
          let parts = in_order_kept suspects l.number _ l.explained.items after.explained.items l.left.items after.left.items low l.invariant.explained l.invariant.left same more in
          record {
            same = kept_next suspects l.number _ l.explained.items after.explained.items l.left.items after.left.items low l.invariant.same same more;
            some = λ few. subst (λ (xs : List FailedCase). 0 < length xs) (sym same) (l.invariant.some (leader_before c.args.leader.first l.number c.name.result few w.if-name.false (λ e. c.name.ensures.1 (leader_names suspects c.args.leader.blame c.args.leader.first l.number _ c.requires e))));
            named = subst (All (IsNamedFor suspects c.args.leader.blame)) (sym same) l.invariant.named;
            explained = parts.0;
            left = parts.1;
          }
    ]
