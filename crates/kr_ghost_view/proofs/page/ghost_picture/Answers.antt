use Rattle.std.specs.Prelude.{◌≡◌, ◌↔◌, List, IfOk, IsTrue}
use Rattle.std.proofs.Common.{subst}
use Rattle.std.proofs.lemmas.Result.{IfOk-weaker}
use Rattle.kr_model.specs.Run.{Program, programs}
use Rattle.kr_model.specs.Serial.{AreSerial}
use Rattle.kr_ghost.specs.Run.{run}
use Rattle.kr_ghost.specs.State.{opened}
use Rattle.kr_ghost.proofs.AllCases.{covered_is_safe}
use Rattle.kr_ghost_view.proofs.page.ghost_picture.Goals as goal

-- The programs that were judged are those of the run.
pub returns-clause-serial : goal.returns-clause-serial
returns-clause-serial g c =
    let p = g.P.GhostProtocol.ghosts c.args.protocol.now in
    let script = c.args.script.now in
    let done : List Program = let r = run p (opened script.opening) script.moves in programs r.history in
    let are : c.in_ok-ran.ran.programs ≡ done = rw (c.opening.ensures.pairs, c.moves.ensures.moves) at c.in_ok-ran.ensures.ran.programs in
    subst (λ (ps : List Program). IfOk c.judged.result (λ told. IsTrue told.1 ↔ AreSerial script.opening ps)) are c.judged.ensures.serial

-- Under a safe protocol they are serializable.
pub returns-clause-safe : goal.returns-clause-safe
returns-clause-safe g c safe =
    let opening = c.args.script.now.opening in
    let serial : AreSerial opening c.in_ok-ran.ran.programs = rw c.opening.ensures.pairs at (c.in_ok-ran.ensures.safe safe) in
    IfOk-weaker c.judged.result (λ told. IsTrue told.1 ↔ AreSerial opening c.in_ok-ran.ran.programs) (λ told. IsTrue told.1) (λ told exactly. exactly.1 serial) c.judged.ensures.serial

-- A covered protocol is safe.
pub returns-clause-covered : goal.returns-clause-covered
returns-clause-covered g c covered =
    let p = g.P.GhostProtocol.ghosts c.args.protocol.now in
    returns-clause-safe g c (covered_is_safe p (g.met.P.GhostProtocol.lawful_ghosts c.args.protocol.now) covered)
