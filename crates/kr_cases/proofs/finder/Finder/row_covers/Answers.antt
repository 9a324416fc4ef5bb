use Rattle.std.proofs.Common.{◌≡◌, ◌≢◌, ◌+◌, [], ◌++◌, None, map, rules, subst, arith}
use Rattle.std.specs.Option.{option_to_list}
use Rattle.kr_model.specs.declared.Origin.TheVariants as origin
use Rattle.kr_model.specs.Covers.{count_up, modes_or_none, case, mode_after, failure, row_cover}
use Rattle.kr_model.proofs.Guarantees.{in_modes_or_none}
use Rattle.kr_cases.specs.Cases.{failures}
use Rattle.kr_cases.proofs.Counted.{before-more, all_modes_or_none}
use Rattle.kr_cases.proofs.Listed.{element_more, element_gives}
use Rattle.kr_cases.proofs.finder.Finder.row_covers.Goals as goal

pub returns-in_err-test-clause-err : goal.returns-in_err-test-clause-err
returns-in_err-test-clause-err g c =
    let p = g.P.Protocol.table c.args.self.now.protocol.now in
    let some : failures p (row_cover p c.args.rule c.args.row c.args.side c.args.cover) ≢ [] = element_gives (failure p) (λ o. case c.args.rule c.args.cover (origin.Own o) None (mode_after p o (p.ask c.args.row c.args.side 0))) (modes_or_none p) c.loop-own.own (in_modes_or_none p c.loop-own.own (omega arith)) (subst (λ m. failure p (case c.args.rule c.args.cover (origin.Own c.loop-own.own) None m) ≢ None) c.mode_after-mode.ensures.mode c.in_err-test.ensures.err) in
    search (rules, some)

pub loop-own-preserved : goal.loop-own-preserved
loop-own-preserved g c =
    let p = g.P.Protocol.table c.args.self.now.protocol.now in
    element_more (failure p) (λ o. case c.args.rule c.args.cover (origin.Own o) None (mode_after p o (p.ask c.args.row c.args.side 0))) c.args.failed.now.items c.loop-own.failed.items c.test.new.failed.items (count_up 0 c.loop-own.own) (count_up 0 (c.loop-own.own + 1)) c.loop-own.own (before-more c.loop-own.own) c.loop-own.invariant (subst (λ m. c.test.new.failed.items ≡ c.loop-own.failed.items ++ option_to_list (failure p (case c.args.rule c.args.cover (origin.Own c.loop-own.own) None m))) c.mode_after-mode.ensures.mode c.in_ok-test.ensures.ok)

pub returns-clause-ok : goal.returns-clause-ok
returns-clause-ok g c =
    let p = g.P.Protocol.table c.args.self.now.protocol.now in
    subst (λ ks. c.loop-own.failed.items ≡ c.args.failed.now.items ++ failures p (map (λ o. case c.args.rule c.args.cover (origin.Own o) None (mode_after p o (p.ask c.args.row c.args.side 0))) ks)) (all_modes_or_none p c.loop-own.own (omega arith)) c.loop-own.invariant
