use Rattle.std.proofs.Common.{ℕ, ◌≡◌, ◌<◌, rules, subst, arith, true}
use Rattle.kr_model.specs.Protocol.{Protocol}
use Rattle.kr_alike.specs.declared.coming.Coming.{Coming}
use Rattle.kr_alike.specs.declared.modes.Modes.{Modes}
use Rattle.kr_alike.specs.Marks.{AreMetBeside, modes_of}
use Rattle.kr_alike.specs.Growth.{IsPassed}
use Rattle.kr_alike.proofs.Growing.{passed_on, passed_all}
use Rattle.kr_alike.proofs.found.Found.pass.Goals as goal

pub loop-code-preserved : goal.loop-code-preserved
loop-code-preserved g c =
    let p : Protocol = g.P.Protocol.table c.args.first.now in
    let q : Protocol = g.Q.Protocol.table c.args.second.now in
    let w : Coming = c.args.coming.now in
    let goes_on : c.follow_beside.result ≡ true = search rules in
    passed_on p q w (λ m k. AreMetBeside p q w m (modes_of k)) c.loop-code.code c.args.self.now c.loop-code.self c.follow_beside.new.self c.follow_beside.result goes_on c.loop-code.invariant
    (subst (λ (x : Modes). IsPassed p q w (λ m. AreMetBeside p q w m x) c.loop-code.self c.follow_beside.new.self c.follow_beside.result) c.modes_of.ensures c.follow_beside.ensures)

pub returns-else-not-follow_beside : goal.returns-else-not-follow_beside
returns-else-not-follow_beside g c =
    let p : Protocol = g.P.Protocol.table c.args.first.now in
    let q : Protocol = g.Q.Protocol.table c.args.second.now in
    let w : Coming = c.args.coming.now in
    let goes_on : c.follow_beside.result ≡ true = search rules in
    subst (λ r. IsPassed p q w (λ m. (k : ℕ) → k < 256 → AreMetBeside p q w m (modes_of k)) c.args.self.now c.follow_beside.new.self r) goes_on
    (passed_all p q w (λ m k. AreMetBeside p q w m (modes_of k)) c.loop-code.code c.args.self.now c.loop-code.self c.follow_beside.new.self c.follow_beside.result (omega arith) c.loop-code.invariant
    (subst (λ (x : Modes). IsPassed p q w (λ m. AreMetBeside p q w m x) c.loop-code.self c.follow_beside.new.self c.follow_beside.result) c.modes_of.ensures c.follow_beside.ensures))
