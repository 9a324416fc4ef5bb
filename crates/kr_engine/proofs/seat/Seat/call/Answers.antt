use Rattle.std.proofs.Common.{subst, ◌∙◌}
use Rattle.kr_records.specs.Seats.{Held, Shows, ToldFault, IsIdle}
use Rattle.kr_records.proofs.Showing.{shows_from}
use Rattle.kr_engine.proofs.Waited.{told_from, idle_from}
use Rattle.kr_engine.proofs.seat.Seat.call.Goals as goal

pub returns-in-Ok-clause-done : goal.returns-in-Ok-clause-done
returns-in-Ok-clause-done g c =
    let p = g.K.EngineName.table in
    let m = g.K.EngineName.opening in
    let i = c.loop.invariant in
    subst (λ (old : Held). Shows p m old c.attempt_or_wait.new.seat c.args.op c.in-Ok.receipt) c.self.view_is
    (shows_from p m c.self.inside.state c.loop.seat c.attempt_or_wait.new.seat c.args.op c.in-Ok.receipt i.others i.begins c.in-Ok.ensures.done)

pub returns-then-not-is_blocked-clause-fault : goal.returns-then-not-is_blocked-clause-fault
returns-then-not-is_blocked-clause-fault g c =
    let p = g.K.EngineName.table in
    let m = g.K.EngineName.opening in
    let i = c.loop.invariant in
    subst (λ (old : Held). ToldFault p m old c.attempt_or_wait.new.seat c.args.op c.in-Err.fault) c.self.view_is
    (told_from p m c.self.inside.state c.loop.seat c.attempt_or_wait.new.seat c.args.op c.in-Err.fault i.others i.begins c.in-Err.ensures.fault)

pub returns-then-not-is_blocked-clause-memory : goal.returns-then-not-is_blocked-clause-memory
returns-then-not-is_blocked-clause-memory g c =
    let p = g.K.EngineName.table in
    let m = g.K.EngineName.opening in
    let i = c.loop.invariant in
    λ is ends. subst (IsIdle p m) c.self.view_is (idle_from p m c.self.inside.state c.loop.seat i.others i.begins (c.attempt_or_wait.ensures.memory (c.in-Err.is ∙ is) ends))
