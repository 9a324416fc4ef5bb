use Rattle.std.proofs.Common.{◌≡◌, ◌∙◌, ap, sym, subst}
use Rattle.kr_model.specs.Map.{IsMap}
use Rattle.kr_index.specs.Slots.{pairs_of, pins_of, unpinned, IsInOrder}
use Rattle.kr_index.proofs.SlotLaws.{in_order-unpinned, pairs-unpinned, pins-unpinned}
use Rattle.kr_index.proofs.tree.Tree.from_pairs.Goals as goal

pub tree_of-requires : goal.tree_of-requires
tree_of-requires c =
    let all : c.in_ok-entries.entries.items ≡ unpinned c.args.pairs.now = c.in_ok-entries.ensures in
    subst IsInOrder (sym all) (in_order-unpinned c.args.pairs.now c.requires)

pub invariant_of-result-clause-sorted : goal.invariant_of-result-clause-sorted
invariant_of-result-clause-sorted c =
    let all : c.in_ok-entries.entries.items ≡ unpinned c.args.pairs.now = c.in_ok-entries.ensures in
    subst IsInOrder (sym (c.in_ok-slots.ensures ∙ all)) (in_order-unpinned c.args.pairs.now c.requires)

pub invariant_of-result-clause-rising : goal.invariant_of-result-clause-rising
invariant_of-result-clause-rising c =
    let all : c.in_ok-entries.entries.items ≡ unpinned c.args.pairs.now = c.in_ok-entries.ensures in
    subst IsMap (sym (ap pairs_of (c.in_ok-slots.ensures ∙ all) ∙ pairs-unpinned c.args.pairs.now)) c.requires

pub returns-clause-map : goal.returns-clause-map
returns-clause-map c =
    let all : c.in_ok-entries.entries.items ≡ unpinned c.args.pairs.now = c.in_ok-entries.ensures in
    ap pairs_of (c.in_ok-slots.ensures ∙ all) ∙ pairs-unpinned c.args.pairs.now

pub returns-clause-pins : goal.returns-clause-pins
returns-clause-pins c q =
    let all : c.in_ok-entries.entries.items ≡ unpinned c.args.pairs.now = c.in_ok-entries.ensures in
    ap (λ l. pins_of l q) (c.in_ok-slots.ensures ∙ all) ∙ pins-unpinned c.args.pairs.now q
