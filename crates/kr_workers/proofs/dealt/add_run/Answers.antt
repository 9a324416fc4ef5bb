use Rattle.std.proofs.Common.{arith}
use Rattle.std.proofs.lemmas.Bool.Decides.{nat_tests}
use Rattle.kr_workers.proofs.Hands.{run_more}
use Rattle.kr_workers.proofs.dealt.add_run.Goals as goal

pub loop-end-preserved : goal.loop-end-preserved
loop-end-preserved c =
    run_more c.args.txn c.args.start c.loop-end.end c.args.events.now _ c.args.ops.now.items c.loop-end.ops.items c.push-in-loop-end.new.self.items (omega arith) (omega arith)
    (grind (arith, nat_tests)) c.in_ok-push-2.ensures.items c.loop-end.invariant
