use Rattle.std.proofs.Common.{◌≡◌, rules, Some, None, false, IsTrue}
use Rattle.kr_model.specs.Protocol.{Protocol}
use Rattle.kr_alike.specs.declared.coming.Coming.{Coming}
use Rattle.kr_alike.specs.Marks.{answer, comes, is_met}
use Rattle.kr_alike.proofs.Growing.{after_reached, none_closed, passed_end}
use Rattle.kr_alike.proofs.found.Found.follow.Goals as goal

pub put-requires-clause-reached : goal.put-requires-clause-reached
put-requires-clause-reached g c =
    let p : Protocol = g.P.Protocol.table c.args.first.now in
    let q : Protocol = g.Q.Protocol.table c.args.second.now in
    let w : Coming = c.args.coming.now in
    let granted : answer p q c.args.ask ≡ Some false = search rules in
    let may : IsTrue (comes w c.args.ask.row c.args.ask.side c.args.ask.own.first c.args.ask.next.first c.args.ask.other.first) = search rules in
    after_reached p q w c.args.ask c.after-after.result may c.after-after.ensures.modes granted c.requires.reached c.requires.alone

pub returns-in-None : goal.returns-in-None
returns-in-None g c =
    let p : Protocol = g.P.Protocol.table c.args.first.now in
    let q : Protocol = g.Q.Protocol.table c.args.second.now in
    let w : Coming = c.args.coming.now in
    let may : IsTrue (comes w c.args.ask.row c.args.ask.side c.args.ask.own.first c.args.ask.next.first c.args.ask.other.first) = search rules in
    let differs : answer p q c.args.ask ≡ None = search rules in
    passed_end p q w (λ m. IsTrue (is_met p q w m c.args.ask)) c.args.self.now c.requires.found
    (none_closed p q w c.args.ask may differs c.requires.reached c.requires.alone)
