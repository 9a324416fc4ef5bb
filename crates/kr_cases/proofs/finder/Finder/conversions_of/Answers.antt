use Rattle.std.proofs.Common.{◌≢◌, ◌+◌, ◌-◌, [], rules, arith}
use Rattle.kr_model.specs.Covers.{count_up, modes, failure, conversions_from, conversions_of}
use Rattle.kr_model.proofs.Guarantees.{in_modes}
use Rattle.kr_cases.specs.Cases.{failures}
use Rattle.kr_cases.proofs.Counted.{below-more}
use Rattle.kr_cases.proofs.Listed.{list_more, list_gives}
use Rattle.kr_cases.proofs.finder.Finder.conversions_of.Goals as goal

pub returns-in_err-conversions_from-clause-err : goal.returns-in_err-conversions_from-clause-err
returns-in_err-conversions_from-clause-err g c =
    let p = g.P.Protocol.table c.args.self.now.protocol.now in
    let some : failures p (conversions_of p c.args.cover) ≢ [] = list_gives (failure p) (conversions_from p c.args.cover) (modes p) c.loop-held.held (in_modes p c.loop-held.held (record { some = omega arith; in_range = omega arith })) c.in_err-conversions_from.ensures.err in
    search (rules, some)

pub loop-held-preserved : goal.loop-held-preserved
loop-held-preserved g c =
    let p = g.P.Protocol.table c.args.self.now.protocol.now in
    list_more (failure p) (conversions_from p c.args.cover) c.args.failed.now.items c.loop-held.failed.items c.conversions_from.new.failed.items (count_up 1 (c.loop-held.held - 1)) (count_up 1 (c.loop-held.held + 1 - 1)) c.loop-held.held (below-more c.loop-held.held (omega arith)) c.loop-held.invariant c.in_ok-conversions_from.ensures.ok
