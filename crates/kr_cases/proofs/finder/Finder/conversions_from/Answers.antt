use Rattle.std.proofs.Common.{◌≡◌, ◌≢◌, ◌+◌, ◌-◌, [], ◌++◌, Some, None, map, rules, subst, arith}
use Rattle.std.specs.Option.{option_to_list}
use Rattle.kr_model.specs.declared.Rule.TheVariants as rule
use Rattle.kr_model.specs.declared.Origin.TheVariants as origin
use Rattle.kr_model.specs.Covers.{count_up, modes, case, failure, conversions_from}
use Rattle.kr_model.proofs.Guarantees.{in_modes}
use Rattle.kr_cases.specs.Cases.{failures}
use Rattle.kr_cases.proofs.Counted.{below-more, all_modes}
use Rattle.kr_cases.proofs.Listed.{element_more, element_gives}
use Rattle.kr_cases.proofs.finder.Finder.conversions_from.Goals as goal

pub returns-in_err-test-clause-err : goal.returns-in_err-test-clause-err
returns-in_err-test-clause-err g c =
    let p = g.P.Protocol.table c.args.self.now.protocol.now in
    let some : failures p (conversions_from p c.args.cover c.args.held) ≢ [] = element_gives (failure p) (λ q. case rule.Conversion c.args.cover (origin.Conversion c.args.held q) (Some c.args.held) (p.convert c.args.held q)) (modes p) c.loop-asked.asked (in_modes p c.loop-asked.asked (record { some = omega arith; in_range = omega arith })) (subst (λ m. failure p (case rule.Conversion c.args.cover (origin.Conversion c.args.held c.loop-asked.asked) (Some c.args.held) m) ≢ None) c.convert-mode.ensures c.in_err-test.ensures.err) in
    search (rules, some)

pub loop-asked-preserved : goal.loop-asked-preserved
loop-asked-preserved g c =
    let p = g.P.Protocol.table c.args.self.now.protocol.now in
    element_more (failure p) (λ q. case rule.Conversion c.args.cover (origin.Conversion c.args.held q) (Some c.args.held) (p.convert c.args.held q)) c.args.failed.now.items c.loop-asked.failed.items c.test.new.failed.items (count_up 1 (c.loop-asked.asked - 1)) (count_up 1 (c.loop-asked.asked + 1 - 1)) c.loop-asked.asked (below-more c.loop-asked.asked (omega arith)) c.loop-asked.invariant (subst (λ m. c.test.new.failed.items ≡ c.loop-asked.failed.items ++ option_to_list (failure p (case rule.Conversion c.args.cover (origin.Conversion c.args.held c.loop-asked.asked) (Some c.args.held) m))) c.convert-mode.ensures c.in_ok-test.ensures.ok)

pub returns-clause-ok : goal.returns-clause-ok
returns-clause-ok g c =
    let p = g.P.Protocol.table c.args.self.now.protocol.now in
    subst (λ ks. c.loop-asked.failed.items ≡ c.args.failed.now.items ++ failures p (map (λ q. case rule.Conversion c.args.cover (origin.Conversion c.args.held q) (Some c.args.held) (p.convert c.args.held q)) ks)) (all_modes p c.loop-asked.asked (omega arith)) c.loop-asked.invariant
