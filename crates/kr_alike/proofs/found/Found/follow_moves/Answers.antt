use Rattle.std.proofs.Common.{rules, IsTrue}
use Rattle.kr_model.specs.Protocol.{Protocol}
use Rattle.kr_alike.specs.declared.coming.Coming.{Coming}
use Rattle.kr_alike.specs.Closed.{none}
use Rattle.kr_alike.specs.Marks.{has}
use Rattle.kr_alike.proofs.Growing.{has_reached}
use Rattle.kr_alike.proofs.found.Found.follow_moves.Goals as goal

pub follow-requires-clause-alone : goal.follow-requires-clause-alone
follow-requires-clause-alone g c =
    let p : Protocol = g.P.Protocol.table c.args.first.now in
    let q : Protocol = g.Q.Protocol.table c.args.second.now in
    let w : Coming = c.args.coming.now in
    let is : IsTrue (has p q c.args.self.now.marks.items c.args.next none) = search rules in
    has_reached p q w c.args.self.now c.args.next none c.requires.found is

pub follow-requires-then-follow-clause-alone : goal.follow-requires-then-follow-clause-alone
follow-requires-then-follow-clause-alone g c =
    let p : Protocol = g.P.Protocol.table c.args.first.now in
    let q : Protocol = g.Q.Protocol.table c.args.second.now in
    let w : Coming = c.args.coming.now in
    let is : IsTrue (has p q c.args.self.now.marks.items c.args.next none) = search rules in
    has_reached p q w c.args.self.now c.args.next none c.requires.found is
