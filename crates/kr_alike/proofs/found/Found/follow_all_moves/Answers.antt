use Rattle.std.proofs.Common.{ℕ, ◌≡◌, ◌<◌, rules, subst, arith, true}
use Rattle.kr_model.specs.Protocol.{Protocol}
use Rattle.kr_alike.specs.declared.coming.Coming.{Coming}
use Rattle.kr_alike.specs.declared.modes.Modes.{Modes}
use Rattle.kr_alike.specs.Marks.{AreMovesMet, modes_of}
use Rattle.kr_alike.specs.Growth.{IsPassed}
use Rattle.kr_alike.proofs.Growing.{passed_on, passed_all}
use Rattle.kr_alike.proofs.found.Found.follow_all_moves.Goals as goal

pub loop-code-preserved : goal.loop-code-preserved
loop-code-preserved g c =
    let p : Protocol = g.P.Protocol.table c.args.first.now in
    let q : Protocol = g.Q.Protocol.table c.args.second.now in
    let w : Coming = c.args.coming.now in
    let goes_on : c.follow_moves.result ≡ true = search rules in
    passed_on p q w (λ m k. AreMovesMet p q w m c.args.own c.args.other (modes_of k)) c.loop-code.code c.args.self.now c.loop-code.self c.follow_moves.new.self c.follow_moves.result goes_on c.loop-code.invariant
    (subst (λ (x : Modes). IsPassed p q w (λ m. AreMovesMet p q w m c.args.own c.args.other x) c.loop-code.self c.follow_moves.new.self c.follow_moves.result) c.modes_of.ensures c.follow_moves.ensures)

pub returns-else-not-follow_moves : goal.returns-else-not-follow_moves
returns-else-not-follow_moves g c =
    let p : Protocol = g.P.Protocol.table c.args.first.now in
    let q : Protocol = g.Q.Protocol.table c.args.second.now in
    let w : Coming = c.args.coming.now in
    let goes_on : c.follow_moves.result ≡ true = search rules in
    subst (λ r. IsPassed p q w (λ m. (k : ℕ) → k < 256 → AreMovesMet p q w m c.args.own c.args.other (modes_of k)) c.args.self.now c.follow_moves.new.self r) goes_on
    (passed_all p q w (λ m k. AreMovesMet p q w m c.args.own c.args.other (modes_of k)) c.loop-code.code c.args.self.now c.loop-code.self c.follow_moves.new.self c.follow_moves.result (omega arith) c.loop-code.invariant
    (subst (λ (x : Modes). IsPassed p q w (λ m. AreMovesMet p q w m c.args.own c.args.other x) c.loop-code.self c.follow_moves.new.self c.follow_moves.result) c.modes_of.ensures c.follow_moves.ensures))
