use Rattle.std.proofs.Common.{◌≡◌, rules, subst, arith, true, IsTrue}
use Rattle.kr_model.specs.declared.Row.{Row}
use Rattle.kr_model.specs.declared.Side.{Side}
use Rattle.kr_model.specs.Protocol.{Protocol}
use Rattle.kr_alike.specs.declared.coming.Coming.{Coming}
use Rattle.kr_alike.specs.Closed.{none}
use Rattle.kr_alike.specs.Marks.{is_met, ask, plain_ask}
use Rattle.kr_alike.specs.Growth.{IsPassed}
use Rattle.kr_alike.proofs.Growing.{passed_on, passed_as}
use Rattle.kr_alike.proofs.found.Found.follow_plain.Goals as goal

pub loop-number-preserved : goal.loop-number-preserved
loop-number-preserved g c =
    let p : Protocol = g.P.Protocol.table c.args.first.now in
    let q : Protocol = g.Q.Protocol.table c.args.second.now in
    let w : Coming = c.args.coming.now in
    let goes_on : c.follow.result ≡ true = search rules in
    passed_on p q w (λ m k. IsTrue (is_met p q w m (plain_ask c.args.own c.args.other k))) c.loop-number.number
    c.args.self.now c.loop-number.self c.follow.new.self c.follow.result goes_on c.loop-number.invariant
    (subst (λ (a : Row × Side). IsPassed p q w (λ m. IsTrue (is_met p q w m (ask a.0 a.1 c.args.own c.args.other none))) c.loop-number.self c.follow.new.self c.follow.result) c.plain-row.ensures c.follow.ensures)

pub returns : goal.returns
returns g c =
    let p : Protocol = g.P.Protocol.table c.args.first.now in
    let q : Protocol = g.Q.Protocol.table c.args.second.now in
    let w : Coming = c.args.coming.now in
    passed_as p q w _ _ c.args.self.now c.loop-number.self true
    (λ m z k lt. z k (omega (arith, c.loop-number-test.false))) c.loop-number.invariant
