use Rattle.std.proofs.Common.{sym, ◌∙◌, drop}
use Rattle.kr_ghost_follow.specs.Points.{Tried}
use Rattle.kr_ghost_follow.specs.Tries.{moment, tried_so}
use Rattle.kr_ghost_follow.proofs.DownwardLaws.{stays}
use Rattle.kr_ghost_follow.proofs.downwards.read_down.Goals as goal

pub returns-then-not-is_read-clause-tried : goal.returns-then-not-is_read-clause-tried
returns-then-not-is_read-clause-tried g c =
    let p = g.P.GhostProtocol.ghosts c.args.stepper.now.protocol in
    let y : Tried = tried_so c.loop-i.last (moment c.loop-i.stepper.state c.loop-i.scans.items) in
    sym (stays p c.args.queue.now c.args.line.event.txn (drop c.loop-i.i c.in_ok-parts.parts.items) y (sym c.is_read.ensures ∙ c.if-not-is_read.true)) ∙ c.loop-i.invariant.last
