use Rattle.std.proofs.Common.{ℕ, sym, ap, subst, arith, ◌∙◌, ◌≡◌, ◌+◌}
use Rattle.kr_ghost_decide.specs.declared.found.Found.{Found}
use Rattle.kr_ghost_decide.specs.Holds.{fact, facts}
use Rattle.kr_ghost_decide.specs.Found.{IsPassed, AreFollowed}
use Rattle.kr_ghost_decide.proofs.News.{passed_on, passed_over}
use Rattle.kr_ghost_decide.proofs.found.Found.pass.Goals as goal
use Rattle.kr_ghost_decide.proofs.found.Found.pass.Goals.{in-Some, in_default}

pub loop-place-preserved : goal.loop-place-preserved
loop-place-preserved g c =
    let p = g.P.GhostProtocol.ghosts c.args.protocol.now in
    let laws = g.met.P.GhostProtocol.lawful_ghosts c.args.protocol.now in
    let k = c.loop-place.place in
    elim c.match-at.branch [
      | in-Some w ↦
          subst (λ (s : Found). IsPassed p (AreFollowed p c.args.heirs.now (k + 1)) c.args.self.now s) (sym w.self-is)
          (passed_on p laws c.args.heirs.now k c.args.self.now c.loop-place.self _ (fact w.in-Some.pair) c.loop-place.invariant (sym c.at.ensures.found ∙ ap facts w.in-Some.is) w.follow.ensures)
      | in_default w ↦
          subst (λ (s : Found). IsPassed p (AreFollowed p c.args.heirs.now (k + 1)) c.args.self.now s) (sym w.self-is)
          (passed_over p laws c.args.heirs.now k c.args.self.now c.loop-place.self c.loop-place.invariant (sym c.at.ensures.found ∙ ap facts w.in_default.is))
    ]

pub returns : goal.returns
returns g c =
    let p = g.P.GhostProtocol.ghosts c.args.protocol.now in
    let most = c.loop-place.auto.place-end in
    let least = c.loop-place-test.false in
    let all : c.loop-place.place ≡ 294912 = omega arith in
    subst (λ (k : ℕ). IsPassed p (AreFollowed p c.args.heirs.now k) c.args.self.now c.loop-place.self) all c.loop-place.invariant
