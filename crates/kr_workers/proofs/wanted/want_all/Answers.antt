use Rattle.std.proofs.Common.{arith}
use Rattle.kr_workers.proofs.Wants.{wanted_more}
use Rattle.kr_workers.proofs.wanted.want_all.Goals as goal

pub loop-txn-preserved : goal.loop-txn-preserved
loop-txn-preserved c = λ apart. wanted_more c.args.faults.now c.args.txns.now c.loop-txn.txn-index _ c.args.hands.now c.loop-txn.hands c.want_of.new.hands (omega arith) apart (c.loop-txn.invariant apart) c.in_ok-want_of.ensures.own c.in_ok-want_of.ensures.others
