use Rattle.std.proofs.Common.{arith, ◌≡◌, ◌≤◌, ◌+◌, subst, sym, ap, ◌∙◌, Some}
use Rattle.std.specs.Prelude.{if◌then◌else◌}
use Rattle.std.specs.Vec.{vec_len}
use Rattle.std.specs.Ordering.{nat_cmp}
use Rattle.std.specs.FinMap.{put}
use Rattle.kr_txn.specs.Standings.{active_of, entries}
use Rattle.kr_machine.specs.Due.{Due}
use Rattle.kr_touch.specs.Parts.{op_of_touch}
use Rattle.kr_machine.specs.Pending.{IsMachine, locks_before, pending_pins}
use Rattle.kr_touch.specs.Pins.{taken_pins}
use Rattle.kr_machine.proofs.Finish.{event_of_pending, keeps_no_lock, takes_no_pin, cancelled_machine}
use Rattle.kr_machine.proofs.stepper.Stepper.cancel.Goals as goal
use Rattle.kr_machine.proofs.stepper.Stepper.cancel.Goals.{in-End, in-Touch}

pub invariant_of-self : goal.invariant_of-self
invariant_of-self g c =
    let p = g.P.Protocol.table c.self.inside.protocol in
    let m = g.I.Ordered.map c.self.inside.index in
    let pins = g.I.Ordered.pins c.self.inside.index in
    let real = g.L.Holdings.locks c.self.inside.locks in
    let d = c.unwrap-standing.result in
    let e = c.ready.inside.event in
    let was = sym c.take.ensures.value ∙ c.unwrap-standing.ensures in
    let same : d.event ≡ e = event_of_pending c.self.inside.pending d e (ap (λ m. m.pending) c.self.view_is ∙ c.requires ∙ ap (λ (d : Due). Some d.event) (sym c.ready.view_is)) was in
    elim c.match-part.branch [
      | in-End w ↦
          let items = c.put_down.ensures.items ∙ ap (λ v. if d.was_active then put nat_cmp e.txn (active_of d.standing) (entries v.active.items) else entries v.active.items) w.self-inside-is in
          let len = subst (λ v. vec_len c.put_down.new.active ≤ vec_len v.active + 1) w.self-inside-is c.put_down.ensures.len in
          subst (λ v. IsMachine (g.P.Protocol.table v.protocol) (g.I.Ordered.map v.index) (g.I.Ordered.pins v.index) (g.L.Holdings.locks v.locks) v.ended c.put_down.new.active v.pending) (sym w.self-inside-is)
          (subst (λ o. IsMachine p m pins real c.self.inside.ended c.put_down.new.active o) (sym c.take.ensures.after)
          (cancelled_machine p m m pins pins real real c.self.inside.ended c.self.inside.active c.put_down.new.active c.self.inside.pending d e was same c.self.invariant (keeps_no_lock real e.txn d.part w.in-End.is) items len (λ q.
          let none = takes_no_pin d.part w.in-End.is q in
          omega (arith, none))))
      | in-Touch w ↦
          let items = c.put_down.ensures.items ∙ ap (λ v. if d.was_active then put nat_cmp e.txn (active_of d.standing) (entries v.active.items) else entries v.active.items) w.self-inside-is in
          let len = subst (λ v. vec_len c.put_down.new.active ≤ vec_len v.active + 1) w.self-inside-is c.put_down.ensures.len in
          let n = g.I.Ordered.map w.give_up.new.index in
          let left = g.I.Ordered.pins w.give_up.new.index in
          let back = g.L.Holdings.locks w.give_up.new.locks in
          subst (λ v. IsMachine (g.P.Protocol.table v.protocol) (g.I.Ordered.map v.index) (g.I.Ordered.pins v.index) (g.L.Holdings.locks v.locks) v.ended c.put_down.new.active v.pending) (sym w.self-inside-is)
          (subst (λ o. IsMachine p n left back c.self.inside.ended c.put_down.new.active o) (sym c.take.ensures.after)
          (cancelled_machine p m n pins left real back c.self.inside.ended c.self.inside.active c.put_down.new.active c.self.inside.pending d e was same c.self.invariant (w.give_up.ensures.locks ∙ ap (locks_before real e.txn) (sym w.in-Touch.is)) items len (λ q.
          let x = w.give_up.ensures.pins q in
          let taken : pending_pins d.part q ≡ taken_pins (op_of_touch w.in-Touch.granted.touch) w.in-Touch.granted.plan.row q = ap (λ z. pending_pins z q) w.in-Touch.is in
          omega (arith, x, taken))))
    ]
