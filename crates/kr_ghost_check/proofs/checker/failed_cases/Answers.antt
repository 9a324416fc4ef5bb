use Rattle.std.proofs.Common.{◌≡◌, ◌≢◌, ◌+◌, ◌<◌, ◌≤◌, [], ◌++◌, length, take, get_or, ap, sym, ◌∙◌, subst, rules, arith}
use Rattle.std.specs.List.{flat_map}
use Rattle.std.proofs.Math.Seq.{take-length}
use Rattle.std.proofs.lemmas.List.{take_more}
use Rattle.kr_ghost.specs.declared.cases.Rule.TheVariants.{Conversion}
use Rattle.kr_ghost.specs.declared.cases.Cover.TheVariants.{ReadKey}
use Rattle.kr_ghost.specs.Covers.{failure, failed_cases}
use Rattle.kr_ghost_check.specs.Groups.{group, groups, failures}
use Rattle.kr_cases.proofs.Listed.{in_listed, list_more, list_gives}
use Rattle.kr_ghost_check.proofs.Grouped.{cases_grouped}
use Rattle.kr_ghost_check.proofs.checker.failed_cases.Goals as goal

pub returns-in_err-group-clause-err : goal.returns-in_err-group-clause-err
returns-in_err-group-clause-err g c =
    let p = g.P.GhostProtocol.ghosts c.args.protocol.now in
    let i = c.loop-pair.pair-index in
    let listed = c.groups-pair-items.ensures in
    let low = subst (λ xs. i < length xs) listed c.loop-pair-test.true in
    let some : failed_cases p ≢ [] =
    subst (λ cs. failures p cs ≢ []) (sym (cases_grouped p))
    (list_gives (failure p) (group p) groups (get_or groups i (Conversion, ReadKey)) (in_listed groups i (Conversion, ReadKey) low)
    (subst (λ xs. failures p (group p (get_or xs i (Conversion, ReadKey))) ≢ []) listed c.in_err-group.ensures.err)) in
    search (rules, some)

pub returns-clause-ok : goal.returns-clause-ok
returns-clause-ok g c =
    let p = g.P.GhostProtocol.ghosts c.args.protocol.now in
    let i = c.loop-pair.pair-index in
    let listed = c.groups-pair-items.ensures in
    let low : i ≤ length groups = subst (λ xs. i ≤ length xs) listed c.loop-pair.auto.pair-index-end in
    let high : length groups ≤ i = subst (λ xs. length xs ≤ i) listed c.loop-pair-test.false in
    let all : i ≡ length groups = omega arith in
    c.loop-pair.invariant ∙ ap (λ gs. failures p (flat_map (group p) gs)) (ap (λ n. take n groups) all ∙ take-length groups) ∙ ap (failures p) (sym (cases_grouped p))

pub loop-pair-preserved : goal.loop-pair-preserved
loop-pair-preserved g c =
    let p = g.P.GhostProtocol.ghosts c.args.protocol.now in
    let i = c.loop-pair.pair-index in
    let listed = c.groups-pair-items.ensures in
    let low = subst (λ xs. i < length xs) listed c.loop-pair-test.true in
    list_more (failure p) (group p) [] c.loop-pair.failed.items c.group.new.failed.items (take i groups) (take (i + 1) groups) (get_or groups i (Conversion, ReadKey)) (take_more groups i (Conversion, ReadKey) low) c.loop-pair.invariant
    (subst (λ xs. c.group.new.failed.items ≡ c.loop-pair.failed.items ++ failures p (group p (get_or xs i (Conversion, ReadKey)))) listed c.in_ok-group.ensures.ok)
