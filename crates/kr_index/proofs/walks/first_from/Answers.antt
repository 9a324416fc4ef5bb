use Rattle.std.proofs.Common.{ap, sym, ◌∙◌}
use Rattle.kr_index.specs.Slots.{pairs_of, least}
use Rattle.kr_index.proofs.TreeLaws.{at_from}
use Rattle.kr_index.proofs.walks.first_from.Goals as goal

pub loop-key-init : goal.loop-key-init
loop-key-init c =
    ap (λ es. least (pairs_of es)) (c.into_iter-key-iterator.ensures.into_iter_gives ∙ c.range-key-items.ensures.between tt) ∙ sym (at_from c.args.slots.now.entries c.args.from)
