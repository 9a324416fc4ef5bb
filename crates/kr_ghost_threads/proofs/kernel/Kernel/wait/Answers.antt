use Rattle.std.proofs.Common.{◌≡◌, List, ◌∷◌, ap, sym, subst, ◌∙◌, false, true}
use Rattle.kr_deadlock.specs.declared.Waiting.{Waiting}
use Rattle.kr_deadlock.specs.Waits.{blockers_of, IsCycle}
use Rattle.kr_workers.specs.Waits.{event}
use Rattle.kr_workers.specs.Counts.{count_in}
use Rattle.kr_ghost_threads.specs.Told.{IsKernel, in_the_way}
use Rattle.kr_ghost_threads.proofs.Kernels.{waiting_more, waiting_none, found_cycle}
use Rattle.kr_ghost_threads.proofs.kernel.Kernel.wait.Goals as goal

pub invariant_of-self-in-Ok-None : goal.invariant_of-self-in-Ok-None
invariant_of-self-in-Ok-None g c running =
    let gh = g.P.GhostProtocol.ghosts in
    let p = g.K.GhostRunName.table in
    let opening = g.K.GhostRunName.opening in
    let i = c.self.inside in
    let w : Waiting = record { txn = c.args.txn; blockers = c.into_vec.result } in
    let blocked : w.blockers.items ≡ in_the_way (gh i.stepper.protocol) i.stepper.state (event c.args.txn c.args.op) = c.into_vec.ensures ∙ rw (← c.self.view_is) at c.requires.blocked in
    subst (λ (l : List Waiting). IsKernel p opening (gh i.stepper.protocol) i.stepper.state i.history.items i.faults.items (count_in i.come) l)
    (sym (c.add_first.ensures c.if-not-add_first.false))
    (waiting_more p opening (gh i.stepper.protocol) i.stepper.state i.history.items i.faults.items (count_in i.come) i.waiting.items w c.args.op (c.self.invariant running) blocked)

pub invariant_of-self-in-Ok-Some : goal.invariant_of-self-in-Ok-Some
invariant_of-self-in-Ok-Some g c running =
    let gh = g.P.GhostProtocol.ghosts in
    let p = g.K.GhostRunName.table in
    let opening = g.K.GhostRunName.opening in
    let i = c.self.inside in
    subst (λ (l : List Waiting). IsKernel p opening (gh i.stepper.protocol) i.stepper.state i.history.items i.faults.items (count_in i.come) l)
    (sym c.clear.ensures.items)
    (waiting_none p opening (gh i.stepper.protocol) i.stepper.state i.history.items i.faults.items (count_in i.come) i.waiting.items (c.self.invariant running))

pub leave_out-requires : goal.leave_out-requires
leave_out-requires g c =
    let gh = g.P.GhostProtocol.ghosts in
    let p = g.K.GhostRunName.table in
    let opening = g.K.GhostRunName.opening in
    let i = c.self.inside in
    let w : Waiting = record { txn = c.args.txn; blockers = c.into_vec.result } in
    let blocked : w.blockers.items ≡ in_the_way (gh i.stepper.protocol) i.stepper.state (event c.args.txn c.args.op) = c.into_vec.ensures ∙ rw (← c.self.view_is) at c.requires.blocked in
    let running : i.failed ≡ false = rw (← c.self.view_is) at c.requires.running in
    let all : c.deref.result.now ≡ w ∷ i.waiting.items = c.deref.ensures.value ∙ c.add_first.ensures c.if-not-add_first.false in
    let found : IsCycle (blockers_of (w ∷ i.waiting.items)) c.args.txn c.in-Ok-Some.cycle.items = subst (λ (l : List Waiting). IsCycle (blockers_of l) c.args.txn c.in-Ok-Some.cycle.items) all (rw c.in-Ok-Some.field-0-is at c.in-Ok-Some.ensures.cycle) in
    let r = found_cycle p opening (gh i.stepper.protocol) i.stepper.state i.history.items i.faults.items (count_in i.come) i.waiting.items w c.args.op c.in-Ok-Some.cycle.items (c.self.invariant running) blocked found in
    rw c.from_vec.ensures r
