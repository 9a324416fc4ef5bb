use Rattle.std.proofs.Common.{is_some, sym, ◌∙◌, ap}
use Rattle.kr_parts.proofs.NextNames.{least_present}
use Rattle.kr_parts.proofs.ordered.Ordered.pair_from.Goals as goal

pub unreachable-requires : goal.unreachable-requires
unreachable-requires g c =
    let m = g.Self.Ordered.map c.args.self.now in
    let there = least_present m c.args.from c.in-Key.key (sym c.at.ensures ∙ c.in-Key.is) in
    let none = ap is_some (sym c.get.ensures ∙ c.in-None.is) in
    absurd (cc (there, none))
