use Rattle.std.proofs.Common.{ap, sym, ◌∙◌}
use Rattle.kr_model.specs.Map.{at}
use Rattle.kr_index.specs.Slots.{pairs_of, least}
use Rattle.kr_index.proofs.SlotLaws.{t_in_order}
use Rattle.kr_index.proofs.SkipLaws.{or_at, walked}
use Rattle.kr_index.proofs.walks.first_between.Goals as goal

pub loop-key-init : goal.loop-key-init
loop-key-init c =
    let es = c.args.slots.now.entries in
    ap (λ l. or_at (least (pairs_of l)) (at (pairs_of es) c.args.end)) (c.into_iter-key-iterator.ensures.into_iter_gives ∙ c.range-key-items.ensures.between tt)
    ∙ sym (walked es c.args.from c.args.end (t_in_order es c.requires.in_order) c.requires.forward)
