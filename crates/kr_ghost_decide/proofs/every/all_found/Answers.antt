use Rattle.std.proofs.Common.{subst, arith, List}
use Rattle.kr_ghost_decide.specs.declared.heir.Heirs.{Heirs}
use Rattle.kr_ghost_decide.specs.Found.{IsPassed, AreFollowed}
use Rattle.kr_ghost_decide.proofs.News.{passing}
use Rattle.kr_ghost_decide.proofs.Complete.{every_marked}
use Rattle.kr_ghost_decide.proofs.every.all_found.Goals as goal

pub loop-before-init : goal.loop-before-init
loop-before-init g c = let f = c.in_ok-found.ensures in record { found = f; more = omega arith; done = λ e. absurd (let some = f.some in omega arith) }

pub loop-before-preserved : goal.loop-before-preserved
loop-before-preserved g c =
    let p = g.P.GhostProtocol.ghosts c.args.protocol.now in
    passing p (λ m. Unit {0}) c.loop-before.found c.pass.new.self c.in_ok-heirs.heirs.items tt c.in_ok-heirs.ensures
    (subst (λ (h : List Heirs). IsPassed p (AreFollowed p h 294912) c.loop-before.found c.pass.new.self) c.deref.ensures.value c.pass.ensures)

pub returns : goal.returns
returns g c =
    let i = c.loop-before.invariant in
    let most = c.loop-before-test.false in
    let least = i.more in
    record { found = i.found; every = every_marked (g.P.GhostProtocol.ghosts c.args.protocol.now) (g.met.P.GhostProtocol.lawful_ghosts c.args.protocol.now) (λ m. Unit {0}) c.loop-before.found i.found (i.done (omega arith)) }
