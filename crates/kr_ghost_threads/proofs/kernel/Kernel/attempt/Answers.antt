use Rattle.std.proofs.Common.{◌≡◌, ap, sym, ◌∙◌, false, true, refl}
use Rattle.kr_model.specs.declared.Event.{Event}
use Rattle.kr_model.specs.declared.Reply.{Reply}
use Rattle.kr_model.specs.declared.Reply.TheVariants as reply
use Rattle.kr_model.specs.Run.{is_granted}
use Rattle.kr_model.specs.Step.{blockers_in}
use Rattle.kr_workers.specs.Counts.{count_in}
use Rattle.kr_ghost.specs.declared.moves.Move.TheVariants as move
use Rattle.kr_ghost.specs.Step.{Outcome}
use Rattle.kr_ghost_run.specs.declared.ran.Answer.TheVariants as answer
use Rattle.kr_ghost_threads.specs.declared.made.Made.{Made}
use Rattle.kr_ghost_threads.proofs.Kernels.{stays, not_granted, again, one_more, more_made, was_added, is_granted_else, counts_step}
use Rattle.kr_ghost_threads.proofs.kernel.Kernel.attempt.Goals as goal

-- A step that is blocked leaves the state.
pub invariant_of-self-in-Blocked : goal.invariant_of-self-in-Blocked
invariant_of-self-in-Blocked g c running =
    let gh = g.P.GhostProtocol.ghosts in
    let i = c.self.inside in
    let n = c.step.new.self in
    stays g.K.GhostRunName.table g.K.GhostRunName.opening (gh i.stepper.protocol) (gh n.protocol) i.stepper.state n.state i.history.items i.faults.items (count_in i.come) i.waiting.items
    (ap gh c.step.ensures.protocol)
    (not_granted (gh i.stepper.protocol) i.stepper.state n.state c.args.txn c.args.op c.in-Ok.reply c.in-Ok.ensures.step (ap is_granted c.in-Blocked.is))
    (c.self.invariant running)

pub wait-requires-clause-blocked : goal.wait-requires-clause-blocked
wait-requires-clause-blocked g c =
    let gh = g.P.GhostProtocol.ghosts in
    let i = c.self.inside in
    let n = c.step.new.self in
    sym (ap blockers_in c.in-Blocked.is)
    ∙ ap blockers_in (again (gh i.stepper.protocol) (gh n.protocol) i.stepper.state n.state c.args.txn c.args.op c.in-Ok.reply (ap gh c.step.ensures.protocol) c.in-Ok.ensures.step (ap is_granted c.in-Blocked.is))

-- So does one that is refused.
pub invariant_of-self-in-Refused : goal.invariant_of-self-in-Refused
invariant_of-self-in-Refused g c running =
    let gh = g.P.GhostProtocol.ghosts in
    let i = c.self.inside in
    let n = c.step.new.self in
    stays g.K.GhostRunName.table g.K.GhostRunName.opening (gh i.stepper.protocol) (gh n.protocol) i.stepper.state n.state i.history.items i.faults.items (count_in i.come) i.waiting.items
    (ap gh c.step.ensures.protocol)
    (not_granted (gh i.stepper.protocol) i.stepper.state n.state c.args.txn c.args.op c.in-Ok.reply c.in-Ok.ensures.step (ap is_granted c.in-Refused.is))
    (c.self.invariant running)

pub leave_out-requires : goal.leave_out-requires
leave_out-requires g c =
    let gh = g.P.GhostProtocol.ghosts in
    let i = c.self.inside in
    let n = c.step.new.self in
    (sym c.in-Refused.is ∙ again (gh i.stepper.protocol) (gh n.protocol) i.stepper.state n.state c.args.txn c.args.op c.in-Ok.reply (ap gh c.step.ensures.protocol) c.in-Ok.ensures.step (ap is_granted c.in-Refused.is), (refl, refl))

-- One that is granted comes into the history.
pub invariant_of-self-in_default-reply : goal.invariant_of-self-in_default-reply
invariant_of-self-in_default-reply g c added =
    let gh = g.P.GhostProtocol.ghosts in
    let i = c.self.inside in
    let n = c.step.new.self in
    let e : Event = record { txn = c.args.txn; op = c.args.op } in
    let m : Made = record { next = move.Attempt e; answer = answer.Step c.in-Ok.reply } in
    let granted : is_granted c.in-Ok.reply ≡ true = is_granted_else c.in-Ok.reply c.in_default-reply.not-Blocked c.in_default-reply.not-Refused in
    let k = c.self.invariant c.if-self.false in
    let done = c.in-Ok.ensures.step in
    more_made g.K.GhostRunName.table g.K.GhostRunName.opening (gh i.stepper.protocol) (gh n.protocol) n.state i.history.items c.add_done.new.history.items i.faults.items (count_in c.add_done.new.come) c.clear.new.self.items m
    (ap gh c.step.ensures.protocol) (c.add_done.ensures.history (was_added c.add_done.result added)) c.clear.ensures.items
    (one_more g.K.GhostRunName.table g.K.GhostRunName.opening (gh i.stepper.protocol) i.stepper.state n.state i.history.items i.faults.items (count_in i.come) (count_in c.add_done.new.come) i.waiting.items m
    k (sym (ap (λ (x : Outcome). answer.Step x.0) done)) (sym (ap (λ (x : Outcome). x.1) done)) granted (counts_step i.history.items i.faults.items e (answer.Step c.in-Ok.reply) (count_in i.come) (count_in c.add_done.new.come) k.counted (c.add_done.ensures.counts (was_added c.add_done.result added))))
