use Rattle.std.proofs.Common.{◌≡◌, ◌≢◌, ◌+◌, ◌<◌, [], ◌++◌, length, take, get_or, subst, rules}
use Rattle.std.proofs.lemmas.List.{take_more}
use Rattle.kr_model.specs.declared.Rule.TheVariants.{Conversion}
use Rattle.kr_model.specs.Covers.{cases_of, all_rules, failure, failed_cases}
use Rattle.kr_cases.specs.Cases.{failures}
use Rattle.kr_cases.proofs.Listed.{in_listed, list_more, list_gives}
use Rattle.kr_cases.proofs.finder.failed_cases.Goals as goal

pub returns-in_err-cases_of-clause-err : goal.returns-in_err-cases_of-clause-err
returns-in_err-cases_of-clause-err g c =
    let p = g.P.Protocol.table c.args.protocol.now in
    let i = c.loop-rule.rule-index in
    let listed = c.all_rules-rule-items.ensures in
    let low = subst (λ xs. i < length xs) listed c.loop-rule-test.true in
    let some : failed_cases p ≢ [] = list_gives (failure p) (cases_of p) (all_rules p) (get_or (all_rules p) i Conversion) (in_listed (all_rules p) i Conversion low)
    (subst (λ xs. failures p (cases_of p (get_or xs i Conversion)) ≢ []) listed c.in_err-cases_of.ensures.err) in
    search (rules, some)

pub loop-rule-preserved : goal.loop-rule-preserved
loop-rule-preserved g c =
    let p = g.P.Protocol.table c.args.protocol.now in
    let i = c.loop-rule.rule-index in
    let listed = c.all_rules-rule-items.ensures in
    let low = subst (λ xs. i < length xs) listed c.loop-rule-test.true in
    list_more (failure p) (cases_of p) [] c.loop-rule.failed.items c.cases_of.new.failed.items (take i (all_rules p)) (take (i + 1) (all_rules p)) (get_or (all_rules p) i Conversion) (take_more (all_rules p) i Conversion low) c.loop-rule.invariant
    (subst (λ xs. c.cases_of.new.failed.items ≡ c.loop-rule.failed.items ++ failures p (cases_of p (get_or xs i Conversion))) listed c.in_ok-cases_of.ensures.ok)
