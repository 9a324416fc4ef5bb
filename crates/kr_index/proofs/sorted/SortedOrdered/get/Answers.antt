use Rattle.std.proofs.Common.{ap}
use Rattle.kr_index.specs.Slots.{value_in}
use Rattle.kr_index.proofs.SlotLaws.{get-pairs}
use Rattle.kr_index.proofs.sorted.SortedOrdered.get.Goals as goal

pub returns-in-Ok : goal.returns-in-Ok
returns-in-Ok c =
    let value = get-pairs c.args.self.now.entries.items c.args.key c.args.self.now.sorted in
    let found = ap value_in c.in-Ok.ensures.slot in
    cc (value, found, c.deref.ensures.value)

pub returns-in-Err : goal.returns-in-Err
returns-in-Err c =
    let value = get-pairs c.args.self.now.entries.items c.args.key c.args.self.now.sorted in
    let found = ap value_in c.in-Err.ensures.absent in
    cc (value, found, c.deref.ensures.value)
