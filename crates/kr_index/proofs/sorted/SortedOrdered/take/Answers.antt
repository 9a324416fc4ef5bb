use Rattle.std.proofs.Common.{ap}
use Rattle.kr_index.specs.Slots.{value_in}
use Rattle.kr_index.proofs.SlotLaws.{get-pairs}
use Rattle.kr_index.proofs.sorted.SortedOrdered.take.Goals as goal

pub returns-in-Ok-clause-value : goal.returns-in-Ok-clause-value
returns-in-Ok-clause-value c =
    let value = get-pairs c.args.self.now.entries.items c.args.key c.args.self.now.sorted in
    let found = ap value_in c.in-Ok.ensures.slot in
    cc (value, found, c.deref.ensures.value)
