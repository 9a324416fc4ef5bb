use Rattle.std.proofs.Common.{sym, subst}
use Rattle.kr_index.specs.Slots.{pairs_of}
use Rattle.kr_index.specs.Stretches.{AreMarked}
use Rattle.kr_index.proofs.SlotLaws.{pairs_are_map}
use Rattle.kr_index.proofs.StretchLaws.{marked_without}
use Rattle.kr_index.proofs.tree.TreeOrdered.take.Goals as goal

pub take_from-requires-clause-marked : goal.take_from-requires-clause-marked
take_from-requires-clause-marked c =
    let m = pairs_of c.args.self.now.slots.entries in
    subst (AreMarked c.args.self.now.stretches.items) (sym c.replace-was.ensures.map) (marked_without c.args.self.now.stretches.items m c.args.key c.args.self.now.marked)

pub invariant_of-self-else-is_some-clause-marked : goal.invariant_of-self-else-is_some-clause-marked
invariant_of-self-else-is_some-clause-marked c =
    let m = pairs_of c.args.self.now.slots.entries in
    subst (AreMarked c.args.self.now.stretches.items) (sym c.replace-was.ensures.map) (marked_without c.args.self.now.stretches.items m c.args.key c.args.self.now.marked)

pub invariant_of-self-else-is_some-clause-rising : goal.invariant_of-self-else-is_some-clause-rising
invariant_of-self-else-is_some-clause-rising c = pairs_are_map c.replace-was.new.slots.entries c.replace-was.ensures.in_order
