use Rattle.std.proofs.Common.{true, is_some, sym, ◌∙◌, ap}
use Rattle.kr_index.specs.Slots.{pairs_of, value_in}
use Rattle.kr_index.proofs.SlotLaws.{get-pairs}
use Rattle.kr_parts.proofs.NextNames.{end_from}
use Rattle.kr_index.proofs.TreeLaws.{at_first, at_end, first_value}
use Rattle.kr_index.proofs.firsts.pair_from.Goals as goal

pub returns-then-is_past_all-clause-none : goal.returns-then-is_past_all-clause-none
returns-then-is_past_all-clause-none c =
    let es = c.args.slots.now.entries in
    end_from (pairs_of es) c.args.from (λ q le. get-pairs es q c.requires.in_order ∙ ap value_in (c.is_past_all.ensures c.if-is_past_all.true q le))

pub returns-in-Some-value-clause-name : goal.returns-in-Some-value-clause-name
returns-in-Some-value-clause-name c =
    sym (at_first c.args.slots.now.entries c.next.new.self c.args.from c.in-Some.key.now c.in-Some.slot.now (sym (c.range-items.ensures.between tt) ∙ c.in-Some.ensures.steps) (ap is_some c.in-Some-value.is))

pub returns-in-Some-value-clause-value : goal.returns-in-Some-value-clause-value
returns-in-Some-value-clause-value c =
    first_value c.args.slots.now.entries c.next.new.self c.args.from c.in-Some.key.now c.in-Some.slot.now c.requires.in_order (sym (c.range-items.ensures.between tt) ∙ c.in-Some.ensures.steps) ∙ c.in-Some-value.is

pub returns-in-None-clause-none : goal.returns-in-None-clause-none
returns-in-None-clause-none c = sym (at_end c.args.slots.now.entries c.args.from (sym (c.range-items.ensures.between tt) ∙ c.in-None.ensures.steps.0))
