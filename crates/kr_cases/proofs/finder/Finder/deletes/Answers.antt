use Rattle.std.proofs.Common.{◌≡◌, ◌≢◌, ◌+◌, [], ◌++◌, None, map, rules, subst, arith}
use Rattle.std.specs.Option.{option_to_list}
use Rattle.kr_model.specs.declared.Rule.TheVariants as rule
use Rattle.kr_model.specs.declared.Row.TheVariants as row
use Rattle.kr_model.specs.declared.Side.TheVariants.{Next}
use Rattle.kr_model.specs.declared.Cover.TheVariants.{DeletedGap}
use Rattle.kr_model.specs.declared.Origin.TheVariants as origin
use Rattle.kr_model.specs.Covers.{count_up, modes_or_none, case, mode_after, failure, cases_of}
use Rattle.kr_model.proofs.Guarantees.{in_modes_or_none}
use Rattle.kr_cases.specs.Cases.{failures}
use Rattle.kr_cases.proofs.Counted.{before-more, all_modes_or_none}
use Rattle.kr_cases.proofs.Listed.{element_more, element_gives}
use Rattle.kr_cases.proofs.finder.Finder.deletes.Goals as goal

pub returns-in_err-test-clause-err : goal.returns-in_err-test-clause-err
returns-in_err-test-clause-err g c =
    let p = g.P.Protocol.table c.args.self.now.protocol.now in
    let some : failures p (cases_of p rule.Delete) ≢ [] = element_gives (failure p) (λ n. case rule.Delete DeletedGap (origin.Own n) None (mode_after p n (p.ask row.Delete Next n))) (modes_or_none p) c.loop-own_next.own_next (in_modes_or_none p c.loop-own_next.own_next (omega arith)) (subst (λ m. failure p (case rule.Delete DeletedGap (origin.Own c.loop-own_next.own_next) None m) ≢ None) c.mode_after-mode.ensures.mode c.in_err-test.ensures.err) in
    search (rules, some)

pub loop-own_next-preserved : goal.loop-own_next-preserved
loop-own_next-preserved g c =
    let p = g.P.Protocol.table c.args.self.now.protocol.now in
    element_more (failure p) (λ n. case rule.Delete DeletedGap (origin.Own n) None (mode_after p n (p.ask row.Delete Next n))) c.args.failed.now.items c.loop-own_next.failed.items c.test.new.failed.items (count_up 0 c.loop-own_next.own_next) (count_up 0 (c.loop-own_next.own_next + 1)) c.loop-own_next.own_next (before-more c.loop-own_next.own_next) c.loop-own_next.invariant (subst (λ m. c.test.new.failed.items ≡ c.loop-own_next.failed.items ++ option_to_list (failure p (case rule.Delete DeletedGap (origin.Own c.loop-own_next.own_next) None m))) c.mode_after-mode.ensures.mode c.in_ok-test.ensures.ok)

pub returns-clause-ok : goal.returns-clause-ok
returns-clause-ok g c =
    let p = g.P.Protocol.table c.args.self.now.protocol.now in
    subst (λ ks. c.loop-own_next.failed.items ≡ c.args.failed.now.items ++ failures p (map (λ n. case rule.Delete DeletedGap (origin.Own n) None (mode_after p n (p.ask row.Delete Next n))) ks)) (all_modes_or_none p c.loop-own_next.own_next (omega arith)) c.loop-own_next.invariant
