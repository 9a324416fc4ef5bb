use Rattle.std.proofs.Common.{◌+◌, ◌≤◌, drop, take, length, arith}
use Rattle.std.proofs.lemmas.List.{length-drop, take_rest}
use Rattle.std.proofs.lemmas.Bool.Decides.{nat_tests}
use Rattle.kr_sink.proofs.Grows.{appends_next, appends_front, appends_kept}
use Rattle.kr_sink.proofs.sink.put_all.Goals as goal

pub loop-done-preserved : goal.loop-done-preserved
loop-done-preserved g c =
    let bs = c.args.bytes.now in
    let i = c.loop-done.done in
    let n = c.in-Ok.n in
    let fits : n ≤ length (drop i bs) = rw (take_rest bs i) at c.in-Ok.ensures.bound in
    record {
      taken = appends_next (g.W.Sink.taken c.args.out.now) (g.W.Sink.taken c.loop-done.out) (g.W.Sink.taken c.put.new.self) i n bs c.loop-done.invariant.taken c.in-Ok.ensures.taken;
      within = omega (arith, length-drop i bs);
      count = grind (arith, nat_tests, c.in-Ok.ensures.failures, c.in-Ok.n-test);
    }

pub returns-in-Ok-eq0-clause-err : goal.returns-in-Ok-eq0-clause-err
returns-in-Ok-eq0-clause-err g c =
    let old = g.W.Sink.taken c.args.out.now in
    let new = g.W.Sink.taken c.put.new.self in
    let bs = c.args.bytes.now in
    let n = c.in-Ok-eq0.field-0 in
    appends_front old new (c.loop-done.done + n) bs (appends_next old (g.W.Sink.taken c.loop-done.out) new c.loop-done.done n bs c.loop-done.invariant.taken c.in-Ok-eq0.ensures.taken)

pub returns-in-Err-clause-err : goal.returns-in-Err-clause-err
returns-in-Err-clause-err g c =
    let old = g.W.Sink.taken c.args.out.now in
    let new = g.W.Sink.taken c.put.new.self in
    let bs = c.args.bytes.now in
    appends_front old new c.loop-done.done bs (appends_kept old (g.W.Sink.taken c.loop-done.out) new (take c.loop-done.done bs) c.loop-done.invariant.taken c.in-Err.ensures.taken)
