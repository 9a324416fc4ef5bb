use Rattle.std.proofs.Common.{◌≤◌, ◌∙◌, sym, subst}
use Rattle.kr_model.specs.declared.LockState.{LockState}
use Rattle.kr_decide.specs.declared.pair.Pair.{Pair}
use Rattle.kr_decide.specs.Opens.{OpensAt, IsOpening}
use Rattle.kr_decide.proofs.Following.{pair_read}
use Rattle.kr_decide.proofs.Openings.{opens_some, opens_none}
use Rattle.kr_decide.proofs.finding.Found.opens.Goals as goal

pub opening-requires-clause-own : goal.opening-requires-clause-own
opening-requires-clause-own g c =
    let p = g.P.Protocol.table c.args.protocol.now in
    let found = c.requires.going.found in
    subst (λ (z : Pair). z.own.mode ≤ p.count) (pair_read c.args.self.now.pairs.items c.args.at c.index-pair.result.now c.requires.at c.index-pair.ensures) (found.own c.args.at)

pub opening-requires-clause-other : goal.opening-requires-clause-other
opening-requires-clause-other g c =
    let p = g.P.Protocol.table c.args.protocol.now in
    let found = c.requires.going.found in
    subst (λ (y : LockState). y.mode ≤ p.count) (sym c.only-other.ensures)
    (subst (λ (z : Pair). z.other.mode ≤ p.count) (pair_read c.args.self.now.pairs.items c.args.at c.index-pair.result.now c.requires.at c.index-pair.ensures) (found.other c.args.at))

pub returns-then-not-protects : goal.returns-then-not-protects
returns-then-not-protects g c =
    opens_none (g.P.Protocol.table c.args.protocol.now) c.args.cover c.args.self.now.pairs.items c.args.at c.index-pair.result.now
    (pair_read c.args.self.now.pairs.items c.args.at c.index-pair.result.now c.requires.at c.index-pair.ensures) (λ o. absurd (let no = c.if-not-protects.ensures ∙ o.protects in cc))

pub returns-in-Some : goal.returns-in-Some
returns-in-Some g c =
    let p = g.P.Protocol.table c.args.protocol.now in
    let found = c.requires.going.found in
    opens_some p c.args.cover c.args.self.now.pairs.items c.args.at c.index-pair.result.now c.in-Some.field-0 found.derived
    (pair_read c.args.self.now.pairs.items c.args.at c.index-pair.result.now c.requires.at c.index-pair.ensures) (sym c.if-not-protects.ensures)
    (subst (λ (y : LockState). IsOpening p c.args.self.now.pairs.items c.index-pair.result.now.own y c.in-Some.field-0) c.only-other.ensures c.in-Some.ensures.some)

pub returns-in-None : goal.returns-in-None
returns-in-None g c =
    let p = g.P.Protocol.table c.args.protocol.now in
    opens_none p c.args.cover c.args.self.now.pairs.items c.args.at c.index-pair.result.now
    (pair_read c.args.self.now.pairs.items c.args.at c.index-pair.result.now c.requires.at c.index-pair.ensures)
    (λ o. c.in-None.ensures.none (subst (λ (y : LockState). OpensAt p c.index-pair.result.now.own y) (sym c.only-other.ensures) o.opens))
