use Rattle.std.proofs.Common.{◌+◌, ◌-◌, sym, ◌∙◌, ap}
use Rattle.kr_model.specs.declared.Op.TheVariants as op
use Rattle.kr_ghost_follow.specs.Points.{Tried, gone_on, tried}
use Rattle.kr_ghost_follow.specs.Tries.{line_of, moment, tried_so}
use Rattle.kr_ghost_follow.proofs.GoneOn.{goes, stops, ends}
use Rattle.kr_ghost_follow.proofs.steps.try_all.Goals as goal

pub returns-then-not-is_passed-clause-tried : goal.returns-then-not-is_passed-clause-tried
returns-then-not-is_passed-clause-tried g c =
    let p = g.P.GhostProtocol.ghosts c.args.stepper.now.protocol in
    let y : Tried = tried_so c.loop.last (moment c.loop.stepper.state c.loop.scans.items) in
    sym (stops p (line_of c.args.line) c.args.queue.now (c.args.more - c.loop.counter) y (sym c.is_passed.ensures ∙ c.if-not-is_passed.true)) ∙ c.loop.invariant.last

pub loop-preserved : goal.loop-preserved
loop-preserved g c =
    let p = g.P.GhostProtocol.ghosts c.args.stepper.now.protocol in
    let l = line_of c.args.line in
    let queue = c.args.queue.now in
    let y : Tried = tried_so c.loop.last (moment c.loop.stepper.state c.loop.scans.items) in
    record {
      protocol = c.in_ok-last-2.ensures.protocol ∙ c.loop.invariant.protocol;
      last = ap (λ z. gone_on p l queue (c.args.more - (c.loop.counter + 1)) z) (c.in_ok-last-2.ensures.tried ∙ ap (λ q. tried (g.P.GhostProtocol.ghosts q) queue l.event.txn y.left op.Go) c.loop.invariant.protocol)
          ∙ sym (goes p l queue c.args.more c.loop.counter y c.loop-test.true (sym c.is_passed.ensures ∙ c.if-not-is_passed.false)) ∙ c.loop.invariant.last;
    }

pub returns : goal.returns
returns g c =
    let p = g.P.GhostProtocol.ghosts c.args.stepper.now.protocol in
    let y : Tried = tried_so c.loop.last (moment c.loop.stepper.state c.loop.scans.items) in
    record {
      protocol = c.loop.invariant.protocol;
      tried = sym (ends p (line_of c.args.line) c.args.queue.now c.args.more c.loop.counter y c.loop-test.false) ∙ c.loop.invariant.last;
    }
