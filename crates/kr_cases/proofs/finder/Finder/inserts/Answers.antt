use Rattle.std.proofs.Common.{◌≡◌, ◌≢◌, ◌+◌, [], ◌++◌, None, rules, subst, arith}
use Rattle.std.specs.List.{flat_map}
use Rattle.kr_model.specs.declared.Rule.TheVariants as rule
use Rattle.kr_model.specs.declared.Cover.TheVariants.{InsertedKey}
use Rattle.kr_model.specs.Covers.{count_up, modes_or_none, failure, inserts_at, cases_of}
use Rattle.kr_model.proofs.Guarantees.{in_modes_or_none}
use Rattle.kr_cases.specs.Cases.{failures}
use Rattle.kr_cases.proofs.Counted.{before-more, all_modes_or_none}
use Rattle.kr_cases.proofs.Listed.{list_more, list_gives}
use Rattle.kr_cases.proofs.finder.Finder.inserts.Goals as goal

pub returns-in_err-inserts_at-clause-err : goal.returns-in_err-inserts_at-clause-err
returns-in_err-inserts_at-clause-err g c =
    let p = g.P.Protocol.table c.args.self.now.protocol.now in
    let some : failures p (cases_of p rule.Insert) ≢ [] = list_gives (failure p) (inserts_at p rule.Insert InsertedKey None) (modes_or_none p) c.loop-own_next.own_next (in_modes_or_none p c.loop-own_next.own_next (omega arith)) c.in_err-inserts_at.ensures.err in
    search (rules, some)

pub loop-own_next-preserved : goal.loop-own_next-preserved
loop-own_next-preserved g c =
    let p = g.P.Protocol.table c.args.self.now.protocol.now in
    list_more (failure p) (inserts_at p rule.Insert InsertedKey None) c.args.failed.now.items c.loop-own_next.failed.items c.inserts_at.new.failed.items (count_up 0 c.loop-own_next.own_next) (count_up 0 (c.loop-own_next.own_next + 1)) c.loop-own_next.own_next (before-more c.loop-own_next.own_next) c.loop-own_next.invariant c.in_ok-inserts_at.ensures.ok

pub returns-clause-ok : goal.returns-clause-ok
returns-clause-ok g c =
    let p = g.P.Protocol.table c.args.self.now.protocol.now in
    subst (λ ks. c.loop-own_next.failed.items ≡ c.args.failed.now.items ++ failures p (flat_map (inserts_at p rule.Insert InsertedKey None) ks)) (all_modes_or_none p c.loop-own_next.own_next (omega arith)) c.loop-own_next.invariant
