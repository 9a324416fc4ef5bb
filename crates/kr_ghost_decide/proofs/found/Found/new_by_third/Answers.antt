use Rattle.std.proofs.Common.{sym, ◌∙◌, ◌<◌, ◌+◌, ◌*◌, ◌≡◌, below_more, arith, false}
use Rattle.kr_ghost_decide.specs.Holds.{fact, hold_at}
use Rattle.kr_ghost_decide.specs.Found.{is_altered}
use Rattle.kr_ghost_decide.proofs.News.{new_third}
use Rattle.kr_ghost_decide.proofs.found.Found.new_by_third.Goals as goal

pub returns-then-is_altered-clause-some : goal.returns-then-is_altered-clause-some
returns-then-is_altered-clause-some g c =
    let p = g.P.GhostProtocol.ghosts c.args.protocol.now in
    let below : c.loop-number.number < (p.table.count + 1) * 24 = let e = c.count.ensures.count in let t = c.loop-number-test.true in omega arith in
    new_third p (g.met.P.GhostProtocol.lawful_ghosts c.args.protocol.now) c.args.self.now (fact c.args.pair) c.loop-number.number c.requires.found c.requires.reached
    below (sym c.is_altered.ensures ∙ c.if-is_altered.true) (sym c.has.ensures ∙ c.if-has.false)

pub loop-number-preserved : goal.loop-number-preserved
loop-number-preserved g c = below_more _ _ c.loop-number.invariant (sym c.is_altered.ensures ∙ c.if-is_altered.false)

pub returns-clause-none : goal.returns-clause-none
returns-clause-none g c =
    let p = g.P.GhostProtocol.ghosts c.args.protocol.now in
    λ n below h. absurd (let within : n < c.loop-number.number = let e = c.count.ensures.count in let t = c.loop-number-test.false in omega arith in let e : is_altered p c.args.self.now.marks.items (fact c.args.pair) (hold_at n) ≡ false = c.loop-number.invariant n within in cc)
