use Rattle.std.proofs.Common.{sym, ◌∙◌, below_more}
use Rattle.kr_ghost_decide.specs.Holds.{fact}
use Rattle.kr_ghost_decide.proofs.News.{new_heirs, any_some, any_none}
use Rattle.kr_ghost_decide.proofs.found.Found.new_by_heirs.Goals as goal
use Rattle.kr_ghost_decide.proofs.found.Found.new_by_heirs.Goals.{in-Some+else-not-has, in_default}

pub returns-then-not-has-clause-some : goal.returns-then-not-has-clause-some
returns-then-not-has-clause-some g c =
    new_heirs (g.P.GhostProtocol.ghosts c.args.protocol.now) (g.met.P.GhostProtocol.lawful_ghosts c.args.protocol.now) c.args.self.now.marks.items (fact c.args.pair) _ c.inherited_by.result c.in-Some.then c.requires.reached
    (c.requires.left c.loop-at.at c.loop-at-test.true) c.inherited_by.ensures c.in-Some.is (sym c.has.ensures ∙ c.if-not-has.true)

pub loop-at-preserved : goal.loop-at-preserved
loop-at-preserved g c =
    below_more _ _ c.loop-at.invariant (elim c.match-inherited_by.branch [ in-Some+else-not-has w ↦ any_some _ _ _ _ c.inherited_by.ensures w.in-Some.is (sym w.has.ensures ∙ w.if-not-has.false) | in_default w ↦ any_none _ _ _ c.inherited_by.ensures w.in_default.is ])
