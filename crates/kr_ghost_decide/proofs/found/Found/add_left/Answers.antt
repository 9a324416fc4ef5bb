use Rattle.std.proofs.Common.{subst, List}
use Rattle.kr_ghost_decide.specs.declared.heir.Heirs.{Heirs}
use Rattle.kr_ghost_decide.specs.Found.{HasHeirs}
use Rattle.kr_ghost_decide.proofs.Lefts.{unmarked, nothing_left, has_left, one_more}
use Rattle.kr_ghost_decide.proofs.found.Found.add_left.Goals as goal

pub returns-in_ok-push : goal.returns-in_ok-push
returns-in_ok-push g c =
    let p = g.P.GhostProtocol.ghosts c.args.protocol.now in
    one_more p c.args.self.now.marks.items c.args.place c.args.list.now.items c.push.new.self.items c.at.result c.in-Some.pair c.left_of.result c.in-Some-left_of.heirs c.requires.heirs
    c.at.ensures.found c.in-Some.is c.left_of.ensures.left c.in-Some-left_of.is c.in_ok-push.ensures.items c.in-Some.ensures.reached c.requires.inherits c.in-Some-left_of.ensures.own c.in-Some-left_of.ensures.other

pub returns-else-not-has_heirs : goal.returns-else-not-has_heirs
returns-else-not-has_heirs g c =
    let p = g.P.GhostProtocol.ghosts c.args.protocol.now in
    has_left p c.args.self.now.marks.items c.args.place c.args.list.now.items c.at.result c.in-Some.pair c.left_of.result c.in-Some-left_of.heirs c.requires.heirs
    c.at.ensures.found c.in-Some.is c.left_of.ensures.left c.in-Some-left_of.is
    (subst (λ (l : List Heirs). HasHeirs l c.in-Some-left_of.heirs) c.deref.ensures.value (c.has_heirs.ensures c.if-not-has_heirs.false))

pub returns-in_default-left_of : goal.returns-in_default-left_of
returns-in_default-left_of g c =
    let p = g.P.GhostProtocol.ghosts c.args.protocol.now in
    nothing_left p c.args.self.now.marks.items c.args.place c.args.list.now.items c.at.result c.in-Some.pair c.left_of.result c.requires.heirs
    c.at.ensures.found c.in-Some.is c.left_of.ensures.left c.in_default-left_of.is

pub returns-in_default : goal.returns-in_default
returns-in_default g c =
    let p = g.P.GhostProtocol.ghosts c.args.protocol.now in
    unmarked p c.args.self.now.marks.items c.args.place c.args.list.now.items c.at.result c.requires.heirs c.at.ensures.found c.in_default.is
