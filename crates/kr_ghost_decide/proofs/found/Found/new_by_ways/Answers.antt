use Rattle.std.proofs.Common.{sym, subst, slice_index_or, ◌∙◌, below_more}
use Rattle.kr_ghost_decide.specs.declared.way.Way.TheVariants as way
use Rattle.kr_ghost_decide.specs.Ways.{moved}
use Rattle.kr_ghost_decide.specs.Found.{HasAny}
use Rattle.kr_ghost_decide.specs.Holds.{fact}
use Rattle.kr_ghost_decide.proofs.News.{new_way, any_some, any_none}
use Rattle.kr_ghost_decide.proofs.found.Found.new_by_ways.Goals as goal
use Rattle.kr_ghost_decide.proofs.found.Found.new_by_ways.Goals.{in-Some+else-not-has, in_default}

pub returns-then-not-has-clause-some : goal.returns-then-not-has-clause-some
returns-then-not-has-clause-some g c =
    new_way (g.P.GhostProtocol.ghosts c.args.protocol.now) (g.met.P.GhostProtocol.lawful_ghosts c.args.protocol.now) c.args.self.now.marks.items (fact c.args.pair) _ c.moved.result c.in-Some.then c.requires
    c.moved.ensures c.in-Some.is (sym c.has.ensures ∙ c.if-not-has.true)

pub loop-number-preserved : goal.loop-number-preserved
loop-number-preserved g c =
    below_more _ _ c.loop-number.invariant
    (subst (λ w. HasAny c.args.self.now.marks.items (moved (g.P.GhostProtocol.ghosts c.args.protocol.now) (fact c.args.pair) (slice_index_or w c.loop-number.number way.Turn))) c.ways-ways.ensures
    (elim c.match-moved.branch [ in-Some+else-not-has w ↦ any_some _ _ _ _ c.moved.ensures w.in-Some.is (sym w.has.ensures ∙ w.if-not-has.false) | in_default w ↦ any_none _ _ _ c.moved.ensures w.in_default.is ]))
