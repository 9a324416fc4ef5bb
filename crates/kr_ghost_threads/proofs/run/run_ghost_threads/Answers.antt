use Rattle.kr_ghost_run.proofs.Left.{safe_programs}
use Rattle.kr_ghost_threads.specs.Histories.{moves_of}
use Rattle.kr_ghost_threads.proofs.run.run_ghost_threads.Goals as goal

-- The main theorem, for the moves of the history.
pub returns-clause-safe : goal.returns-clause-safe
returns-clause-safe g c safe =
    let protocol = c.args.protocol.now in
    let laws = (g.met.P.GhostProtocol g.world.𝓛 g.world.𝓜 g.world.𝓡 ((λ s x. x), (λ x. x), (λ x. x), λ x. x)).lawful_ghosts protocol in
    safe_programs (g.P.GhostProtocol.ghosts protocol) laws safe c.args.script.now.opening (moves_of c.in_ok-threaded.threaded.history.items) c.opening-opening.ensures.kept.rising
