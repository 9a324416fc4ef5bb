use Rattle.std.proofs.Common.{arith}
use Rattle.std.proofs.lemmas.Bool.Decides.{nat_tests}
use Rattle.kr_workers.proofs.Undone.{taken_more, last_of}
use Rattle.kr_workers.proofs.undoing.take_run.Goals as goal

pub returns-then-not-take_last-clause-others : goal.returns-then-not-take_last-clause-others
returns-then-not-take_last-clause-others c = λ all.
    c.take_last.ensures.other c.if-not-take_last.true _
    (last_of c.args.txn c.loop-start.start c.args.end c.args.events.now _ c.args.ops.now.items c.loop-start.ops.items (omega arith) (omega arith) (omega arith) (grind (arith, nat_tests)) c.loop-start.invariant.of_one c.loop-start.invariant.taken all)

pub loop-start-preserved : goal.loop-start-preserved
loop-start-preserved c =
    let more = taken_more c.args.txn c.loop-start.start c.args.end c.args.events.now _ c.args.ops.now.items c.loop-start.ops.items c.take_last.new.ops.items (omega arith) (omega arith) (omega arith) (grind (arith, nat_tests)) (c.take_last.ensures.same c.if-not-take_last.false) c.loop-start.invariant.of_one c.loop-start.invariant.taken in
    record { within = omega arith; of_one = more.0; taken = more.1 }
