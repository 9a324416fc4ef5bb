use Rattle.std.proofs.Common.{◌∙◌, Some, ap, sym}
use Rattle.kr_trace_lines.specs.Replies.{txn_of}
use Rattle.kr_trace_lines.proofs.Each.{values-end, values-more, values-not}
use Rattle.kr_trace_lines.proofs.replies.txns_in.Goals as goal

pub loop-item-preserved : goal.loop-item-preserved
loop-item-preserved c =
    values-more txn_of c.args.list.now c.loop-item.item-index c.loop-item.txns.items c.loop-item.invariant c.item-item.result c.item-item.result c.push.new.self.items c.in-Some.txn
    c.loop-item-test.true c.item-item.is (sym c.in-Some.ensures) c.in_ok-push.ensures.items

pub returns-in_default : goal.returns-in_default
returns-in_default c =
    sym (values-not txn_of c.args.list.now c.loop-item.item-index c.loop-item.txns.items c.loop-item.invariant c.item-item.result c.item-item.result
    c.loop-item-test.true c.item-item.is (sym c.in_default.ensures))

pub returns : goal.returns
returns c = ap (λ x. Some x) c.from_vec.ensures ∙ sym (values-end txn_of c.args.list.now c.loop-item.item-index c.loop-item.txns.items c.loop-item.invariant c.loop-item-test.false)
