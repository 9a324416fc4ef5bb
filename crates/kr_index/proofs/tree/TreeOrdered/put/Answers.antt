use Rattle.std.proofs.Common.{◌≡◌, ◌++◌, sym, subst, arith, length, take, drop}
use Rattle.std.proofs.lemmas.Grind.{common_steps}
use Rattle.kr_index.specs.Slots.{pairs_of}
use Rattle.kr_index.specs.Stretches.{IsRising, AreMarked}
use Rattle.kr_index.proofs.SlotLaws.{pairs_are_map}
use Rattle.kr_index.proofs.tree.TreeOrdered.put.Goals as goal

pub invariant_of-self-clause-rising : goal.invariant_of-self-clause-rising
invariant_of-self-clause-rising c = pairs_are_map c.replace-was.new.slots.entries c.replace-was.ensures.in_order

pub invariant_of-self-clause-parted : goal.invariant_of-self-clause-parted
invariant_of-self-clause-parted c =
    let ss = c.args.self.now.stretches in
    let kept : take ss.len (c.enter.new.stretches ++ drop (length c.enter.new.stretches) ss.items) ≡ c.enter.new.stretches = grind (arith, common_steps) in
    subst IsRising (sym kept) c.enter.ensures.rising

pub invariant_of-self-clause-marked : goal.invariant_of-self-clause-marked
invariant_of-self-clause-marked c =
    let m = pairs_of c.args.self.now.slots.entries in
    let ss = c.args.self.now.stretches in
    let kept : take ss.len (c.enter.new.stretches ++ drop (length c.enter.new.stretches) ss.items) ≡ c.enter.new.stretches = grind (arith, common_steps) in
    let marked = c.enter.ensures.marked m c.args.value (subst (λ l. AreMarked l m) (sym c.deref_mut.ensures.value) c.args.self.now.marked) in
    subst (λ l. AreMarked l (pairs_of c.replace-was.new.slots.entries)) (sym kept) (subst (AreMarked c.enter.new.stretches) (sym c.replace-was.ensures.map) marked)
