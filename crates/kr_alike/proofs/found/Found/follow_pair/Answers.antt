use Rattle.std.proofs.Common.{ℕ, ◌<◌, rules, subst, IsTrue}
use Rattle.kr_model.specs.Protocol.{Protocol}
use Rattle.kr_alike.specs.declared.coming.Coming.{Coming}
use Rattle.kr_alike.specs.Marks.{has, is_met, plain_ask}
use Rattle.kr_alike.specs.Growth.{IsPassed, IsReached}
use Rattle.kr_alike.proofs.Growing.{has_reached, turned, ended, pair_passed}
use Rattle.kr_alike.proofs.found.Found.follow_pair.Goals as goal

pub put-requires-clause-reached : goal.put-requires-clause-reached
put-requires-clause-reached g c =
    let p : Protocol = g.P.Protocol.table c.args.first.now in
    let q : Protocol = g.Q.Protocol.table c.args.second.now in
    let w : Coming = c.args.coming.now in
    let is : IsTrue (has p q c.args.self.now.marks.items c.args.own c.args.other) = search rules in
    let reached : IsReached p q w c.args.own c.args.other = has_reached p q w c.args.self.now c.args.own c.args.other c.requires is in
    turned p q w c.args.own c.args.other reached

pub put-requires-2-clause-reached : goal.put-requires-2-clause-reached
put-requires-2-clause-reached g c =
    let p : Protocol = g.P.Protocol.table c.args.first.now in
    let q : Protocol = g.Q.Protocol.table c.args.second.now in
    let w : Coming = c.args.coming.now in
    let is : IsTrue (has p q c.args.self.now.marks.items c.args.own c.args.other) = search rules in
    let reached : IsReached p q w c.args.own c.args.other = has_reached p q w c.args.self.now c.args.own c.args.other c.requires is in
    ended p q w c.args.own c.args.other reached

pub follow_plain-requires-clause-reached : goal.follow_plain-requires-clause-reached
follow_plain-requires-clause-reached g c =
    let p : Protocol = g.P.Protocol.table c.args.first.now in
    let q : Protocol = g.Q.Protocol.table c.args.second.now in
    let w : Coming = c.args.coming.now in
    let is : IsTrue (has p q c.args.self.now.marks.items c.args.own c.args.other) = search rules in
    let reached : IsReached p q w c.args.own c.args.other = has_reached p q w c.args.self.now c.args.own c.args.other c.requires is in
    reached

pub follow_all_moves-requires-clause-reached : goal.follow_all_moves-requires-clause-reached
follow_all_moves-requires-clause-reached g c =
    let p : Protocol = g.P.Protocol.table c.args.first.now in
    let q : Protocol = g.Q.Protocol.table c.args.second.now in
    let w : Coming = c.args.coming.now in
    let is : IsTrue (has p q c.args.self.now.marks.items c.args.own c.args.other) = search rules in
    let reached : IsReached p q w c.args.own c.args.other = has_reached p q w c.args.self.now c.args.own c.args.other c.requires is in
    reached

pub returns-then-follow_plain : goal.returns-then-follow_plain
returns-then-follow_plain g c =
    let p : Protocol = g.P.Protocol.table c.args.first.now in
    let q : Protocol = g.Q.Protocol.table c.args.second.now in
    let w : Coming = c.args.coming.now in
    let plain = subst (λ r. IsPassed p q w (λ m. (k : ℕ) → k < 12 → IsTrue (is_met p q w m (plain_ask c.args.own c.args.other k))) c.put-2.new.self c.follow_plain.new.self r) c.if-follow_plain.true c.follow_plain.ensures in
    pair_passed p q w c.args.self.now c.put.new.self c.put-2.new.self c.follow_plain.new.self c.follow_all_moves.new.self c.follow_all_moves.result c.args.own c.args.other c.put.ensures c.put-2.ensures plain c.follow_all_moves.ensures
