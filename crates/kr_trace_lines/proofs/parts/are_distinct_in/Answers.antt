use Rattle.std.proofs.Common.{◌≡◌, ◌+◌, ◌∙◌, ap, sym, get_or, ◌∷◌, add-one, drop, drop-cons, true, false}
use Rattle.kr_model.specs.Locks.{add_once}
use Rattle.kr_trace_lines.specs.Parts.{has}
use Rattle.kr_trace_lines.proofs.Distinct.{are_fresh, fresh-begin, fresh-more}
use Rattle.kr_trace_lines.proofs.parts.are_distinct_in.Goals as goal

pub loop-txn-init : goal.loop-txn-init
loop-txn-init c =
    let cs = c.args.committed.now.numbers in
    let ts = c.args.txns.now in
    fresh-begin cs ts ∙ ap (λ us. are_fresh cs us ts) (sym c.new-before.ensures)

pub loop-txn-preserved : goal.loop-txn-preserved
loop-txn-preserved c =
    let cs = c.args.committed.now.numbers in
    let us = c.loop-txn.before.numbers in
    let ts = c.args.txns.now in
    let i = c.loop-txn.txn-index in
    let t = get_or ts i 0 in
    let split = drop-cons ts i 0 c.loop-txn-test.true ∙ ap (λ n. t ∷ drop n ts) (sym (add-one i)) in
    let is_in : has cs t ≡ true = cc in
    let is_new : has us t ≡ false = cc in
    c.loop-txn.invariant
    ∙ ap (are_fresh cs us) split
    ∙ fresh-more cs us t (drop (i + 1) ts) is_in is_new
    ∙ ap (λ ws. are_fresh cs ws (drop (i + 1) ts)) (sym (c.add.ensures.numbers ∙ ap (add_once t) c.in_ok-make_room.ensures.numbers))
