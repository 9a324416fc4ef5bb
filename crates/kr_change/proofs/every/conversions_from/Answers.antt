use Rattle.std.proofs.Common.{◌≡◌, ◌+◌, ◌-◌, ◌++◌, ◌∙◌, ap, sym, arith}
use Rattle.kr_model.specs.Covers.{count_up}
use Rattle.kr_change.specs.Every.{converted_to}
use Rattle.kr_change.proofs.Listed.{below-more, list_more, same_is_none, other_is_one}
use Rattle.kr_change.proofs.every.conversions_from.Goals.{then-mode-now+in_ok-push, else-mode-now}
use Rattle.kr_change.proofs.every.conversions_from.Goals as goal

-- the conversion to one mode more
pub loop-mode-preserved : goal.loop-mode-preserved
loop-mode-preserved g c =
    let p = g.P.Protocol.table c.args.protocol.now in
    let h = c.args.held in
    let q = c.args.requested in
    let m = c.loop-mode.mode in
    let more : c.if-mode-now.changes.items ≡ c.loop-mode.changes.items ++ converted_to p h q m = elim c.if-mode-now.branch [
      | then-mode-now+in_ok-push w ↦
          ap (λ v. v.items) w.changes-is ∙ w.in_ok-push.ensures.items ∙ ap (λ xs. c.loop-mode.changes.items ++ xs) (sym (other_is_one p h q m c.convert-now.result c.convert-now.ensures w.if-mode-now.true))
      | else-mode-now w ↦
          ap (λ v. v.items) w.changes-is ∙ same_is_none p h q m c.convert-now.result c.loop-mode.changes.items c.convert-now.ensures w.if-mode-now.false
    ] in
    list_more (converted_to p h q) c.args.changes.now.items c.loop-mode.changes.items c.if-mode-now.changes.items (count_up 1 (m - 1)) (count_up 1 (m + 1 - 1)) m (below-more m (omega arith)) c.loop-mode.invariant more
