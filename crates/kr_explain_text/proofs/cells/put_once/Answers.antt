use Rattle.std.proofs.Common.{◌<◌, ap, arith, length}
use Rattle.std.proofs.lemmas.List.{get_or_default}
use Rattle.kr_explain_text.proofs.Rowed.{once_there, once_put, once_end}
use Rattle.kr_explain_text.proofs.cells.put_once.Goals as goal

pub returns-then-txn-other : goal.returns-then-txn-other
returns-then-txn-other c =
    let ys = c.loop-at.txns.items in
    let i = c.loop-at.at in
    let within : i < length ys = omega (arith, ap length c.loop-at.invariant.same) in
    once_there c.args.txn c.args.txns.now.items ys i c.loop-at.invariant.same within c.loop-at.invariant.below (omega (arith, get_or_default ys i 0 c.index-other.result.now within))

pub returns-then-txn-other-2 : goal.returns-then-txn-other-2
returns-then-txn-other-2 c =
    let ys = c.loop-at.txns.items in
    let i = c.loop-at.at in
    let within : i < length ys = omega (arith, ap length c.loop-at.invariant.same) in
    once_put c.args.txn c.args.txns.now.items ys _ i c.loop-at.invariant.same within c.loop-at.invariant.below (omega (arith, get_or_default ys i 0 c.index-other.result.now within)) c.in_ok-insert.ensures.items

pub returns : goal.returns
returns c = once_end c.args.txn c.args.txns.now.items c.loop-at.txns.items _ c.loop-at.at c.loop-at.invariant.same (omega (arith, ap length c.loop-at.invariant.same)) c.loop-at.invariant.below c.in_ok-push.ensures.items
