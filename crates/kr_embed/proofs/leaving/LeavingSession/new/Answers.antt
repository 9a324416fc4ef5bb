use Rattle.std.proofs.Common.{◌≡◌, ap}
use Rattle.kr_model.specs.declared.Reply.TheVariants as reply
use Rattle.kr_ghost.specs.State.{opened}
use Rattle.kr_ghost_run.proofs.Left.{starts_at}
use Rattle.kr_txn.specs.Logs.{LogWithRoom}
use Rattle.kr_embed.proofs.Recorded.{begun}
use Rattle.kr_embed.proofs.leaving.LeavingSession.new.Goals as goal

-- Nothing is noted at the start.
pub invariant_of-result : goal.invariant_of-result
invariant_of-result c =
    let s = c.new-2.result.state in
    let index = c.in_ok-index.index in
    let starts : s ≡ opened c.args.opening.now = starts_at c.args.opening.now index.map index.ghosts s c.new-2.ensures.state c.in_ok-index.ensures.map c.in_ok-index.ensures.ghosts in
    begun c.args.opening.now s c.new-3.result reply.None starts (ap (λ (l : LogWithRoom). l.log) c.new-3.ensures)
