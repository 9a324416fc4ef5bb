use Rattle.std.proofs.Common.{ap, ◌∙◌}
use Rattle.std.specs.Ordering.{nat_cmp}
use Rattle.kr_model.proofs.Trees.{lookup_is_find}
use Rattle.kr_index.specs.Slots.{value_in}
use Rattle.kr_index.proofs.SlotLaws.{get-pairs}
use Rattle.kr_index.proofs.firsts.value_at.Goals as goal

pub returns-in-Some : goal.returns-in-Some
returns-in-Some c =
    let value = get-pairs c.args.slots.now.entries c.args.key c.requires in
    let found = ap value_in (c.in-Some.ensures.value ∙ lookup_is_find nat_cmp c.args.slots.now.entries c.args.key) in
    cc (value, found)

pub returns-in-None : goal.returns-in-None
returns-in-None c =
    let value = get-pairs c.args.slots.now.entries c.args.key c.requires in
    let found = ap value_in (c.in-None.ensures.value ∙ lookup_is_find nat_cmp c.args.slots.now.entries c.args.key) in
    cc (value, found)
