use Rattle.std.proofs.Common.{subst, sym}
use Rattle.kr_index.specs.Slots.{IsInOrder}
use Rattle.kr_index.proofs.SlotLaws.{t_in_order}
use Rattle.kr_index.proofs.Places.{at_place, at_gap, slice_from}
use Rattle.kr_index.proofs.sorted.SortedOrdered.at.Goals as goal

pub returns-in-Ok : goal.returns-in-Ok
returns-in-Ok c =
    let es = c.deref.result.now in
    let sorted = t_in_order es (subst IsInOrder (sym c.deref.ensures.value) c.args.self.now.sorted) in
    let name = at_place es sorted c.args.from c.in-Ok.place c.in-Ok.ensures.place in
    let rest = slice_from c.deref-in-Ok.result.now c.in-Ok.place in
    cc (name, rest, c.first_present.ensures, c.deref.ensures.value, c.deref-in-Ok.ensures.value)

pub returns-in-Err : goal.returns-in-Err
returns-in-Err c =
    let name = at_gap c.deref.result.now c.args.from c.in-Err.place c.in-Err.ensures.gap in
    let rest = slice_from c.deref-in-Err.result.now c.in-Err.place in
    cc (name, rest, c.first_present-in-Err.ensures, c.deref.ensures.value, c.deref-in-Err.ensures.value)
