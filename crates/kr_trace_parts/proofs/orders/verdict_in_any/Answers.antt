use Rattle.std.specs.Prelude.{◌≡◌, ◌<◌, ◌++◌, List, None, ℕ, Ok, length, map}
use Rattle.std.proofs.Common.{◌∙◌, ap, arith, subst, sym}
use Rattle.std.proofs.lemmas.List.{length-map}
use Rattle.kr_trace_parts.specs.Committed.{AreSerial, Committed}
use Rattle.kr_trace_parts.specs.Kept.{shown}
use Rattle.kr_trace_parts.specs.Orders.{AreArranged, IsWrongIn}
use Rattle.kr_trace_parts.specs.Printed.{in_order}
use Rattle.kr_trace_parts.specs.declared.programs.Committed.{Committed as Noted}
use Rattle.kr_trace_parts.proofs.ArrangeLaws.{txns}
use Rattle.kr_trace_parts.proofs.OrderLaws.{found_in_any, moved, none_in_any, serial_in_any, unserial_in_commit_order}
use Rattle.kr_trace_parts.proofs.orders.verdict_in_any.Goals as goal

pub returns-in_default : goal.returns-in_default
returns-in_default c once =
    let m = c.args.opening.now in
    let cs = map shown c.args.committed.items in
    let are : c.in_ok-txns.txns.items ≡ txns cs = c.in_ok-txns.ensures ∙ ap (λ (xs : List Noted). txns (map shown xs)) c.as_slice.ensures.value in
    let serial : AreSerial m (in_order (map shown c.as_slice-2.result.now) c.as_slice-3.result.now) = c.in_ok-wrong.ensures.none.0 c.in_default.is in
    serial_in_any m cs c.from_vec.result once (c.from_vec.ensures ∙ are)
    (moved m c.as_slice-2.result.now c.args.committed.items c.as_slice-3.result.now c.from_vec.result c.as_slice-2.ensures.value (c.as_slice-3.ensures.value ∙ sym c.from_vec.ensures) serial)

pub returns-then-len-gt-MOST_TRIED : goal.returns-then-len-gt-MOST_TRIED
returns-then-len-gt-MOST_TRIED c once =
    let m = c.args.opening.now in
    let cs = map shown c.args.committed.items in
    let ts = c.in_ok-txns.txns.items in
    let are : ts ≡ txns cs = c.in_ok-txns.ensures ∙ ap (λ (xs : List Noted). txns (map shown xs)) c.as_slice.ensures.value in
    let many : length ts ≡ length cs = ap (λ (us : List ℕ). length us) are ∙ length-map cs (λ (x : Committed). x.txn) in
    let more : 7 < length cs = omega (arith, many, c.len.ensures, c.in_ok-txns.txns.ok.0, c.if-len-gt-MOST_TRIED.true) in (
      more,
      unserial_in_commit_order m cs ts once are
          (λ serial. (let none : c.in_ok-wrong.field-0 ≡ None = c.in_ok-wrong.ensures.none.1
          (moved m c.args.committed.items c.as_slice-2.result.now ts c.as_slice-3.result.now (sym c.as_slice-2.ensures.value) (sym c.as_slice-3.ensures.value) serial) in
          let some = c.in-Some.is in
          absurd (cc))),
    )

pub returns-then-branch : goal.returns-then-branch
returns-then-branch c once =
    let m = c.args.opening.now in
    let cs = map shown c.args.committed.items in
    let are : c.in_ok-txns.txns.items ≡ txns cs = c.in_ok-txns.ensures ∙ ap (λ (xs : List Noted). txns (map shown xs)) c.as_slice.ensures.value in
    let f = c.in_ok-add_serial_rest.ensures.found (ap (λ b. Ok b) c.if-branch.true) in
    let alone : c.new-order.result.items ++ f.0 ≡ f.0 = ap (λ (us : List ℕ). us ++ f.0) c.new-order.ensures.items in
    found_in_any m cs c.as_slice-5.result.now c.from_vec-then-branch.result f.0 once (c.as_slice-5.ensures.value ∙ are) f.1.0 (c.from_vec-then-branch.ensures ∙ f.1.1.0 ∙ alone)
    (moved m c.as_slice-4.result.now c.args.committed.items (c.new-order.result.items ++ f.0) f.0 c.as_slice-4.ensures.value alone f.1.1.1)

pub returns : goal.returns
returns c once =
    let m = c.args.opening.now in
    let cs = map shown c.args.committed.items in
    let ts = c.in_ok-txns.txns.items in
    let are : ts ≡ txns cs = c.in_ok-txns.ensures ∙ ap (λ (xs : List Noted). txns (map shown xs)) c.as_slice.ensures.value in
    let there : IsWrongIn m c.as_slice-2.result.now c.as_slice-3.result.now c.in-Some.wrong = rw c.in-Some.is at c.in_ok-wrong.ensures.wrong in
    let wrong : IsWrongIn m c.args.committed.items ts c.in-Some.wrong =
    subst (λ (us : List ℕ). IsWrongIn m c.args.committed.items us c.in-Some.wrong) c.as_slice-3.ensures.value
    (subst (λ (xs : List Noted). IsWrongIn m xs c.as_slice-3.result.now c.in-Some.wrong) c.as_slice-2.ensures.value there) in
    none_in_any m cs ts c.not_serial.result once are (c.not_serial.ensures m ts wrong)
    (λ more arranged serial. c.in_ok-add_serial_rest.ensures.none (ap (λ b. Ok b) c.if-branch.false) more (subst (λ (us : List ℕ). AreArranged us more) (sym c.as_slice-5.ensures.value) arranged)
    (moved m c.args.committed.items c.as_slice-4.result.now more (c.new-order.result.items ++ more) (sym c.as_slice-4.ensures.value) (sym (ap (λ (us : List ℕ). us ++ more) c.new-order.ensures.items)) serial))
