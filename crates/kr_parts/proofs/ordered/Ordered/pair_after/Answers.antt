use Rattle.std.proofs.Common.{arith}
use Rattle.std.proofs.lemmas.Grind.{common_steps}
use Rattle.std.proofs.Common.{is_some, suc, sym, ◌∙◌, ap}
use Rattle.kr_parts.proofs.NextNames.{least_present}
use Rattle.kr_parts.proofs.ordered.Ordered.pair_after.Goals as goal

pub unreachable-requires : goal.unreachable-requires
unreachable-requires g c =
    let m = g.Self.Ordered.map c.args.self.now in
    let there = least_present m (suc c.args.key) c.in-Key.next (sym c.after.ensures ∙ c.in-Key.is) in
    let none = ap is_some (sym c.get.ensures ∙ c.in-None-get.is) in
    absurd (cc (there, none))

pub returns-in-Some-clause-none : goal.returns-in-Some-clause-none
returns-in-Some-clause-none g c = grind (arith, common_steps)

pub returns-in-Some-clause-name : goal.returns-in-Some-clause-name
returns-in-Some-clause-name g c = grind (arith, common_steps)
