use Rattle.std.proofs.Common.{◌≡◌, ◌∙◌, ap}
use Rattle.std.proofs.lemmas.Result.{IfOk-weaker}
use Rattle.kr_trace_follow.specs.Since.{last_noted}
use Rattle.kr_trace_follow.specs.Steps.{queue_for}
use Rattle.kr_ghost_follow.specs.Points.{Point, Tried, first_op, last_tried}
use Rattle.kr_ghost_follow.specs.Stands.{point}
use Rattle.kr_ghost_follow.specs.Tries.{line_of, moment, tried_so}
use Rattle.kr_ghost_follow.proofs.Standing.{kind_told, last_is}
use Rattle.kr_ghost_follow.proofs.stand.take_line.Goals as goal

pub returns-clause-kind : goal.returns-clause-kind
returns-clause-kind g c =
    let l = line_of c.args.line in
    let t = l.event.txn in
    let p = g.P.GhostProtocol.ghosts c.args.stepper.now.protocol in
    let at : Point = point c.args.stepper.now.state c.args.scans.now.items c.args.waiting.now.items c.args.queued.now in
    let first = c.first_op-first.result in
    let y : Tried = tried_so c.in_ok-last.last (moment c.try_line.new.stepper.state c.try_line.new.scans.items) in
    let since = last_noted c.try_line.new.notes in
    let first_is : first ≡ first_op at.scans l = c.first_op-first.ensures ∙ ap (λ xs. first_op xs l) c.deref.ensures.value in
    let queue_is : c.queue_for-queue.result.now ≡ queue_for l.observed at.waiting = c.queue_for-queue.ensures ∙ ap (λ w. queue_for l.observed w) c.deref-2.ensures.value in
    let last : ◌≡◌ {A = Tried} y (last_tried p at l) = last_is p at l c.queue_for-queue.result.now first y queue_is first_is c.in_ok-last.ensures.tried in
    IfOk-weaker c.kind_now.result _ _
    (λ kind is. kind_told p (g.P.GhostProtocol.ghosts c.try_line.new.stepper.protocol) at l since y kind (ap (λ q. g.P.GhostProtocol.ghosts q) c.in_ok-last.ensures.protocol) last is) c.kind_now.ensures
