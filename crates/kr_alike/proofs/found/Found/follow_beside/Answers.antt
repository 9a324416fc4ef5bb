use Rattle.std.proofs.Common.{ℕ, ◌≡◌, ◌<◌, rules, subst, arith, true, IsTrue}
use Rattle.kr_model.specs.Protocol.{Protocol}
use Rattle.kr_alike.specs.declared.coming.Coming.{Coming}
use Rattle.kr_alike.specs.declared.modes.Modes.{Modes}
use Rattle.kr_alike.specs.Marks.{IsPairMet, has, modes_of}
use Rattle.kr_alike.specs.Growth.{IsPassed}
use Rattle.kr_alike.proofs.Growing.{passed_on, passed_all}
use Rattle.kr_alike.proofs.found.Found.follow_beside.Goals as goal

pub loop-code-preserved : goal.loop-code-preserved
loop-code-preserved g c =
    let p : Protocol = g.P.Protocol.table c.args.first.now in
    let q : Protocol = g.Q.Protocol.table c.args.second.now in
    let w : Coming = c.args.coming.now in
    let goes_on : c.follow_pair.result ≡ true = search rules in
    passed_on p q w (λ m k. IsTrue (has p q m c.args.own (modes_of k)) → IsPairMet p q w m c.args.own (modes_of k)) c.loop-code.code c.args.self.now c.loop-code.self c.follow_pair.new.self c.follow_pair.result goes_on c.loop-code.invariant
    (subst (λ (x : Modes). IsPassed p q w (λ m. IsTrue (has p q m c.args.own x) → IsPairMet p q w m c.args.own x) c.loop-code.self c.follow_pair.new.self c.follow_pair.result) c.modes_of.ensures c.follow_pair.ensures)

pub returns-else-not-follow_pair : goal.returns-else-not-follow_pair
returns-else-not-follow_pair g c =
    let p : Protocol = g.P.Protocol.table c.args.first.now in
    let q : Protocol = g.Q.Protocol.table c.args.second.now in
    let w : Coming = c.args.coming.now in
    let goes_on : c.follow_pair.result ≡ true = search rules in
    subst (λ r. IsPassed p q w (λ m. (k : ℕ) → k < 256 → IsTrue (has p q m c.args.own (modes_of k)) → IsPairMet p q w m c.args.own (modes_of k)) c.args.self.now c.follow_pair.new.self r) goes_on
    (passed_all p q w (λ m k. IsTrue (has p q m c.args.own (modes_of k)) → IsPairMet p q w m c.args.own (modes_of k)) c.loop-code.code c.args.self.now c.loop-code.self c.follow_pair.new.self c.follow_pair.result (omega arith) c.loop-code.invariant
    (subst (λ (x : Modes). IsPassed p q w (λ m. IsTrue (has p q m c.args.own x) → IsPairMet p q w m c.args.own x) c.loop-code.self c.follow_pair.new.self c.follow_pair.result) c.modes_of.ensures c.follow_pair.ensures))
