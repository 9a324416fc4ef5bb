use Rattle.std.proofs.Common.{sym, ◌∙◌, ap}
use Rattle.kr_index.specs.Slots.{pairs_of, value_in}
use Rattle.kr_index.proofs.SlotLaws.{get-pairs}
use Rattle.kr_parts.proofs.NextNames.{end_from}
use Rattle.kr_index.proofs.TreeLaws.{at_first, at_end}
use Rattle.kr_index.proofs.walks.name_at.Goals as goal

pub returns-then-is_some : goal.returns-then-is_some
returns-then-is_some c =
    at_first c.args.slots.now.entries c.next.new.self c.args.from c.in-Some.key.now c.in-Some.slot.now (sym (c.range-items.ensures.between tt) ∙ c.in-Some.ensures.steps) (sym c.is_some.ensures ∙ c.if-is_some.true)

pub returns-in-None : goal.returns-in-None
returns-in-None c = at_end c.args.slots.now.entries c.args.from (sym (c.range-items.ensures.between tt) ∙ c.in-None.ensures.steps.0)

pub returns-then-is_past_all : goal.returns-then-is_past_all
returns-then-is_past_all c =
    let es = c.args.slots.now.entries in
    sym (end_from (pairs_of es) c.args.from (λ q le. get-pairs es q c.requires.in_order ∙ ap value_in (c.is_past_all.ensures c.if-is_past_all.true q le)))
