use Rattle.std.proofs.Common.{◌≡◌, ◌∙◌}
use Rattle.kr_explain_core.proofs.Trying.{placed_first, placed_last}
use Rattle.kr_explain_core.proofs.explaining.firsts_first.Goals as goal
use Rattle.kr_explain_core.proofs.explaining.firsts_first.Goals.{then-any+in_ok-push, else-any+in_ok-push-2}

pub loop-case-preserved : goal.loop-case-preserved
loop-case-preserved c =
    elim c.if-any.branch [
      | then-any+in_ok-push w ↦
          let firsts : c.if-any.firsts.items ≡ c.loop-case.firsts.items = cc in
          let others : c.if-any.others.items ≡ w.push.new.self.items = cc in
          placed_last c.args.cases.now c.loop-case.case-index _ c.loop-case.firsts.items c.loop-case.others.items c.if-any.firsts.items c.if-any.others.items c.loop-case-test.true firsts (others ∙ w.in_ok-push.ensures.items) c.loop-case.invariant
      | else-any+in_ok-push-2 w ↦
          let firsts : c.if-any.firsts.items ≡ w.push-else-any.new.self.items = cc in
          let others : c.if-any.others.items ≡ c.loop-case.others.items = cc in
          placed_first c.args.cases.now c.loop-case.case-index _ c.loop-case.firsts.items c.loop-case.others.items c.if-any.firsts.items c.if-any.others.items c.loop-case-test.true (firsts ∙ w.in_ok-push-2.ensures.items) others c.loop-case.invariant
    ]
