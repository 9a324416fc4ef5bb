use Rattle.std.proofs.Common.{is_some, sym, ◌∙◌, ap}
use Rattle.kr_index.specs.Slots.{pairs_of}
use Rattle.kr_parts.proofs.NextNames.{least_present}
use Rattle.kr_index.proofs.firsts.pair_past.Goals as goal

pub unreachable-requires : goal.unreachable-requires
unreachable-requires c =
    let m = pairs_of c.args.slots.now.entries in
    let there = least_present m c.args.from c.in-Key.key (sym c.in-Key.ensures) in
    let none = ap is_some (sym c.value_at.ensures ∙ c.in-None.is) in
    absurd (cc (there, none))
