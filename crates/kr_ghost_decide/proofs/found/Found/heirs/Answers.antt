use Rattle.std.proofs.Common.{ℕ, sym, ap, subst, arith, ◌∙◌, ◌≡◌}
use Rattle.kr_ghost_decide.specs.Found.{AreHeirs}
use Rattle.kr_ghost_decide.proofs.Lefts.{none_left}
use Rattle.kr_ghost_decide.proofs.found.Found.heirs.Goals as goal
use Rattle.kr_ghost_decide.proofs.found.Found.heirs.Goals.{then-inherits+else-loop-place-test, else-inherits}

pub returns : goal.returns
returns g c =
    let p = g.P.GhostProtocol.ghosts c.args.protocol.now in
    elim c.if-inherits.branch [
      | then-inherits+else-loop-place-test w ↦
          let most = w.loop-place.auto.place-end in
          let least = w.loop-place-test.false in
          let all : w.loop-place.place ≡ 294912 = omega arith in
          subst (λ l. AreHeirs p c.args.self.now.marks.items 294912 l.items) (sym w.list-is) (subst (λ (k : ℕ). AreHeirs p c.args.self.now.marks.items k w.loop-place.list.items) all w.loop-place.invariant)
      | else-inherits w ↦ none_left p c.args.self.now.marks.items 294912 c.if-inherits.list.items c.inherits.result c.inherits.ensures w.if-inherits.false (ap (λ l. l.items) w.list-is ∙ c.new-list.ensures.items)
    ]
