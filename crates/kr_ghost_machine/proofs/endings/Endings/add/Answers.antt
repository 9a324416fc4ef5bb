use Rattle.std.proofs.Common.{[], ◌∙◌, ap, sym, arith}
use Rattle.kr_model.specs.Locks.{add_once}
use Rattle.kr_ghost_machine.specs.Endings.{with_each}
use Rattle.kr_ghost_machine.proofs.Copied.{with_last}
use Rattle.kr_ghost_machine.proofs.endings.Endings.add.Goals as goal

pub invariant_of-self : goal.invariant_of-self
invariant_of-self c =
    let inv = c.self.invariant in
    record {
      numbers = c.add.ensures.numbers ∙ ap (add_once c.args.txn) inv.numbers ∙ sym (with_last [] c.self.inside.order.items c.args.txn) ∙ ap (with_each []) (sym c.push_reserved.ensures.items);
      ended_room = omega (arith, c.add.ensures.room, inv.ended_room);
      order_room = omega (arith, c.push_reserved.ensures.len, c.push_reserved.ensures.capacity, inv.order_room, c.requires);
    }
