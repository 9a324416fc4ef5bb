use Rattle.std.proofs.Common.{◌≤◌, subst}
use Rattle.kr_decide.specs.declared.pair.Pair.{Pair}
use Rattle.kr_decide.proofs.Following.{pair_read}
use Rattle.kr_decide.proofs.Openings.{opened_at}
use Rattle.kr_decide.proofs.finding.Found.opening_at.Goals as goal

pub opening_so_far-requires-clause-own : goal.opening_so_far-requires-clause-own
opening_so_far-requires-clause-own g c =
    let p = g.P.Protocol.table c.args.protocol.now in
    let found = c.requires.found in
    subst (λ (z : Pair). z.own.mode ≤ p.count) (pair_read c.args.self.now.pairs.items c.args.at c.index-pair.result.now c.requires.at c.index-pair.ensures) (found.own c.args.at)

pub opening_so_far-requires-clause-other : goal.opening_so_far-requires-clause-other
opening_so_far-requires-clause-other g c =
    let p = g.P.Protocol.table c.args.protocol.now in
    let found = c.requires.found in
    subst (λ (z : Pair). z.other.mode ≤ p.count) (pair_read c.args.self.now.pairs.items c.args.at c.index-pair.result.now c.requires.at c.index-pair.ensures) (found.other c.args.at)

pub returns-in-Some : goal.returns-in-Some
returns-in-Some g c =
    opened_at (g.P.Protocol.table c.args.protocol.now) c.args.self.now.pairs.items c.args.at c.index-pair.result.now c.in-Some.opening c.requires.at
    (pair_read c.args.self.now.pairs.items c.args.at c.index-pair.result.now c.requires.at c.index-pair.ensures) c.in-Some.ensures.some
