use Rattle.std.specs.Prelude.{◌≡◌, ◌<◌, ◌++◌, ◌∷◌, ◌+◌, ◌-◌, [], ℕ, List, Ok, length, map, not, slice_index}
use Rattle.std.specs.List.{remove}
use Rattle.std.proofs.Common.{◌∙◌, ap, arith, rules, subst, sym}
use Rattle.std.proofs.lemmas.List.{length-append}
use Rattle.kr_trace_parts.specs.Committed.{AreSerial}
use Rattle.kr_trace_parts.specs.Kept.{shown}
use Rattle.kr_trace_parts.specs.Orders.{AreArranged}
use Rattle.kr_trace_parts.specs.Printed.{in_order}
use Rattle.kr_trace_parts.proofs.WrongLaws.{found_with, front_unserial, none_tried, none_with, popped, some_not_none, tried_more}
use Rattle.kr_trace_parts.proofs.orders.+add_serial_rest.Goals.{then-is_none+in_ok-others+in_ok-add_serial_rest+else-branch, else-is_none}
use Rattle.kr_trace_parts.proofs.orders.+add_serial_rest.Goals as goal

pub returns-then-branch-clause-found : goal.returns-then-branch-clause-found
returns-then-branch-clause-found t c _ =
    let rest = c.args.rest.now in
    let old = c.args.order.now.items in
    let pushed : c.push.new.self.items ≡ old ++ slice_index rest c.loop-i.i ∷ [] = c.in_ok-push.ensures.items ∙ ap (λ (us : List ℕ). us ++ slice_index rest c.loop-i.i ∷ []) c.loop-i.invariant.same in
    let removed : c.as_slice-then-is_none.result.now ≡ remove rest c.loop-i.i = search rules in
    found_with c.args.opening.now (map shown c.args.committed.now) old c.push.new.self.items c.add_serial_rest.new.order.items rest c.as_slice-then-is_none.result.now c.loop-i.i c.loop-i-test.true
    pushed removed (c.in_ok-add_serial_rest.ensures.found (ap (λ b. Ok b) c.if-branch.true))

pub loop-i-preserved : goal.loop-i-preserved
loop-i-preserved t c =
    let m = c.args.opening.now in
    let cs = map shown c.args.committed.now in
    let rest = c.args.rest.now in
    let old = c.args.order.now.items in
    let i = c.loop-i.i in
    let pushed : c.push.new.self.items ≡ old ++ slice_index rest i ∷ [] = c.in_ok-push.ensures.items ∙ ap (λ (us : List ℕ). us ++ slice_index rest i ∷ []) c.loop-i.invariant.same in
    let joined : c.if-is_none.order.items ≡ old ++ slice_index rest i ∷ [] =
    elim c.if-is_none.branch [
      | then-is_none+in_ok-others+in_ok-add_serial_rest+else-branch w ↦ ap (λ o. o.items) w.order-is ∙ w.in_ok-add_serial_rest.ensures.same (ap (λ b. Ok b) w.if-branch.false) ∙ pushed
      | else-is_none w ↦ ap (λ o. o.items) w.order-is ∙ pushed
    ] in
    let here : (more : List ℕ) → AreArranged (remove rest i) more → AreSerial m (in_order cs (old ++ slice_index rest i ∷ more)) → ⊥ =
    elim c.if-is_none.branch [
      | then-is_none+in_ok-others+in_ok-add_serial_rest+else-branch w ↦ none_with m cs old c.push.new.self.items rest w.as_slice-then-is_none.result.now i pushed (search rules) (w.in_ok-add_serial_rest.ensures.none (ap (λ b. Ok b) w.if-branch.false))
      | else-is_none w ↦ λ more arranged. front_unserial m cs old (slice_index rest i) more
          (λ serial. some_not_none c.in_ok-wrong_in.field-0 (c.is_none.ensures ∙ ap not w.if-is_none.false)
          (c.in_ok-wrong_in.ensures.none.1 (subst (λ (us : List ℕ). AreSerial m (in_order cs us)) (sym (c.as_slice.ensures.value ∙ pushed)) serial)))
    ] in
    let order = c.if-is_none.order in
    let whole : length order.items ≡ length old + 1 = ap (λ (us : List ℕ). length us) joined ∙ length-append old (slice_index rest i ∷ []) in
    record {
      same = popped order.items c.pop.new.self.items old (slice_index rest i) (order.len - 1) c.pop.ensures.rest joined (omega (arith, whole, order.ok.0));
      none = tried_more m cs old rest i c.loop-i-test.true c.loop-i.invariant.none here;
    }

pub returns-clause-none : goal.returns-clause-none
returns-clause-none t c _ more arranged serial =
    let some : 0 < length c.args.rest.now = search rules in
    none_tried c.args.opening.now (map shown c.args.committed.now) c.args.order.now.items c.args.rest.now c.loop-i.i some (omega arith) c.loop-i.invariant.none more arranged serial
