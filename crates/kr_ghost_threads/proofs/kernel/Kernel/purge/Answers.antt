use Rattle.std.proofs.Common.{◌≡◌, List, [], ap, sym, subst, ◌∙◌, false, true, refl}
use Rattle.kr_deadlock.specs.declared.Waiting.{Waiting}
use Rattle.kr_ghost.specs.declared.moves.Move.TheVariants as move
use Rattle.kr_ghost_run.specs.declared.ran.Answer.TheVariants as answer
use Rattle.kr_ghost_threads.specs.declared.made.Made.{Made}
use Rattle.kr_workers.specs.Counts.{count_in}
use Rattle.kr_ghost_threads.specs.Told.{IsKernel}
use Rattle.kr_ghost_threads.proofs.Kernels.{one_more, more_made, was_added, counts_purge}
use Rattle.kr_ghost_threads.proofs.kernel.Kernel.purge.Goals as goal

pub invariant_of-self : goal.invariant_of-self
invariant_of-self g c added =
    let gh = g.P.GhostProtocol.ghosts in
    let i = c.self.inside in
    let m : Made = record { next = move.Purge c.args.key; answer = answer.Purge true } in
    let k = c.self.invariant c.if-self.false in
    let done = c.in-Ok-true.ensures in
    more_made g.K.GhostRunName.table g.K.GhostRunName.opening (gh i.stepper.protocol) (gh c.purge.new.self.protocol) c.purge.new.self.state i.history.items c.add.new.list.items i.faults.items (count_in i.come) c.clear.new.self.items m
    (ap gh c.purge.ensures.protocol) (c.add.ensures (was_added c.add.result added)) c.clear.ensures.items
    (one_more g.K.GhostRunName.table g.K.GhostRunName.opening (gh i.stepper.protocol) i.stepper.state c.purge.new.self.state i.history.items i.faults.items (count_in i.come) (count_in i.come) i.waiting.items m
    k (ap answer.Purge (sym c.in-Ok-true.field-0-test ∙ done.purged)) done.state refl (counts_purge i.history.items i.faults.items c.args.key (answer.Purge true) (count_in i.come) k.counted))
