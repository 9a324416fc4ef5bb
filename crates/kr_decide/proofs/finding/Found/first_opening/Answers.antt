use Rattle.std.proofs.Common.{◌≤◌, subst, rules}
use Rattle.kr_decide.specs.declared.pair.Pair.{Pair}
use Rattle.kr_decide.proofs.Following.{pair_read}
use Rattle.kr_decide.proofs.Openings.{none_step, opened_at}
use Rattle.kr_decide.proofs.finding.Found.first_opening.Goals as goal

pub opening-requires-clause-own : goal.opening-requires-clause-own
opening-requires-clause-own g c =
    let p = g.P.Protocol.table c.args.protocol.now in
    let found = c.requires.found in
    subst (λ (z : Pair). z.own.mode ≤ p.count) (pair_read c.args.self.now.pairs.items c.loop-at.at c.index-pair.result.now (search rules) c.index-pair.ensures) (found.own c.loop-at.at)

pub opening-requires-clause-other : goal.opening-requires-clause-other
opening-requires-clause-other g c =
    let p = g.P.Protocol.table c.args.protocol.now in
    let found = c.requires.found in
    subst (λ (z : Pair). z.other.mode ≤ p.count) (pair_read c.args.self.now.pairs.items c.loop-at.at c.index-pair.result.now (search rules) c.index-pair.ensures) (found.other c.loop-at.at)

pub returns-in-Some-clause-some : goal.returns-in-Some-clause-some
returns-in-Some-clause-some g c =
    opened_at (g.P.Protocol.table c.args.protocol.now) c.args.self.now.pairs.items c.loop-at.at c.index-pair.result.now c.in-Some.opening (search rules)
    (pair_read c.args.self.now.pairs.items c.loop-at.at c.index-pair.result.now (search rules) c.index-pair.ensures) c.in-Some.ensures.some

pub loop-at-preserved : goal.loop-at-preserved
loop-at-preserved g c =
    none_step (g.P.Protocol.table c.args.protocol.now) c.args.self.now.pairs.items c.loop-at.at c.index-pair.result.now c.loop-at.invariant
    (pair_read c.args.self.now.pairs.items c.loop-at.at c.index-pair.result.now (search rules) c.index-pair.ensures) c.in_default.ensures.none
