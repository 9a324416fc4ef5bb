use Rattle.std.proofs.Common.{arith, ◌≡◌, subst, sym, ap, ◌∙◌, None}
use Rattle.kr_machine.specs.Pending.{IsMachine, pending_pins}
use Rattle.kr_touch.specs.Pins.{taken_pins}
use Rattle.kr_touch.specs.Parts.{op_of_touch}
use Rattle.kr_machine.proofs.Finish.{ended_machine, going_machine}
use Rattle.kr_machine.proofs.stepper.Stepper.finish.Goals as goal

pub invariant_of-self : goal.invariant_of-self
invariant_of-self g c =
    let was = sym c.take.ensures.value ∙ c.unwrap-standing.ensures in
    subst (λ o. IsMachine (g.P.Protocol.table c.self.inside.protocol) (g.I.Ordered.map c.end.new.index) (g.I.Ordered.pins c.end.new.index) (g.L.Holdings.locks c.leave.new.locks) c.leave.new.ended c.self.inside.active o) (sym c.take.ensures.after)
    (subst (λ l. IsMachine (g.P.Protocol.table c.self.inside.protocol) (g.I.Ordered.map c.end.new.index) (g.I.Ordered.pins c.end.new.index) l c.leave.new.ended c.self.inside.active None) (sym c.leave.ensures.locks)
    (ended_machine (g.P.Protocol.table c.self.inside.protocol) (g.I.Ordered.map c.self.inside.index) (g.I.Ordered.map c.end.new.index) (g.I.Ordered.pins c.self.inside.index) (g.I.Ordered.pins c.end.new.index) (g.L.Holdings.locks c.self.inside.locks) c.ready.inside.event.txn c.self.inside.ended c.leave.new.ended c.self.inside.active c.self.inside.pending c.unwrap-standing.result c.in-End.ending was c.in-End.is c.self.invariant c.leave.ensures.room c.end.ensures.pins))

pub invariant_of-self-in-Back : goal.invariant_of-self-in-Back
invariant_of-self-in-Back g c =
    let was = sym c.take.ensures.value ∙ c.unwrap-standing.ensures in
    subst (λ o. IsMachine (g.P.Protocol.table c.self.inside.protocol) (g.I.Ordered.map c.take_back-left.new.index) (g.I.Ordered.pins c.take_back-left.new.index) (g.L.Holdings.locks c.self.inside.locks) c.self.inside.ended c.put_in.new.list o) (sym c.take.ensures.after)
    (going_machine (g.P.Protocol.table c.self.inside.protocol) (g.I.Ordered.map c.self.inside.index) (g.I.Ordered.map c.take_back-left.new.index) (g.I.Ordered.pins c.self.inside.index) (g.I.Ordered.pins c.take_back-left.new.index) (g.L.Holdings.locks c.self.inside.locks) c.self.inside.ended c.self.inside.active c.put_in.new.list c.self.inside.pending c.unwrap-standing.result c.take_back-left.result was c.self.invariant c.take_back-left.ensures.txn c.put_in.ensures.items c.put_in.ensures.len (λ q.
    let x = c.take_back-left.ensures.pins q in
    let none : pending_pins c.unwrap-standing.result.part q ≡ 0 = ap (λ part. pending_pins part q) c.in-Back.is in
    omega (arith, x, none)))

pub invariant_of-self-in-Touch : goal.invariant_of-self-in-Touch
invariant_of-self-in-Touch g c =
    let was = sym c.take.ensures.value ∙ c.unwrap-standing.ensures in
    subst (λ o. IsMachine (g.P.Protocol.table c.self.inside.protocol) (g.I.Ordered.map c.perform-done.new.index) (g.I.Ordered.pins c.perform-done.new.index) (g.L.Holdings.locks c.self.inside.locks) c.self.inside.ended c.put_in-in-Touch.new.list o) (sym c.take.ensures.after)
    (going_machine (g.P.Protocol.table c.self.inside.protocol) (g.I.Ordered.map c.self.inside.index) (g.I.Ordered.map c.perform-done.new.index) (g.I.Ordered.pins c.self.inside.index) (g.I.Ordered.pins c.perform-done.new.index) (g.L.Holdings.locks c.self.inside.locks) c.self.inside.ended c.self.inside.active c.put_in-in-Touch.new.list c.self.inside.pending c.unwrap-standing.result c.perform-done.result was c.self.invariant c.perform-done.ensures.txn c.put_in-in-Touch.ensures.items c.put_in-in-Touch.ensures.len (λ q.
    let x = c.perform-done.ensures.pins q in
    let taken : pending_pins c.unwrap-standing.result.part q ≡ taken_pins (op_of_touch c.in-Touch.granted.touch) c.in-Touch.granted.plan.row q = ap (λ part. pending_pins part q) c.in-Touch.is in
    omega (arith, x, taken)))
