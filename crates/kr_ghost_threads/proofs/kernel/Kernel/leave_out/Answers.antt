use Rattle.std.proofs.Common.{◌≡◌, ◌+◌, List, sym, subst, refl}
use Rattle.kr_script.specs.declared.not_done.StepFault.{StepFault}
use Rattle.kr_workers.specs.Counts.{count_in}
use Rattle.kr_ghost_threads.specs.Told.{IsKernel, IsCause}
use Rattle.kr_ghost_threads.proofs.Kernels.{left_out_more}
use Rattle.kr_ghost_threads.proofs.kernel.Kernel.leave_out.Goals as goal

pub invariant_of-self-else-not-add_fault : goal.invariant_of-self-else-not-add_fault
invariant_of-self-else-not-add_fault g c running =
    let gh = g.P.GhostProtocol.ghosts in
    let p = g.K.GhostRunName.table in
    let opening = g.K.GhostRunName.opening in
    let i = c.self.inside in
    let f : StepFault = record { txn = c.args.txn; step = count_in i.come c.args.txn + 1; op = c.args.op; cause = c.args.cause } in
    let cause : IsCause (gh i.stepper.protocol) i.stepper.state c.args.txn c.args.op c.args.cause = rw (← c.self.view_is) at c.requires in
    subst (λ (l : List StepFault). IsKernel p opening (gh i.stepper.protocol) i.stepper.state i.history.items l (count_in c.add_fault.new.come) i.waiting.items)
    (sym (c.add_fault.ensures.fault c.if-not-add_fault.false))
    (left_out_more p opening (gh i.stepper.protocol) i.stepper.state i.history.items i.faults.items (count_in i.come) (count_in c.add_fault.new.come) i.waiting.items f (c.self.invariant running) cause refl (c.add_fault.ensures.counts c.if-not-add_fault.false))
