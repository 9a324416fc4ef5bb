use Rattle.std.proofs.Common.{◌≡◌, List, ◌∙◌}
use Rattle.kr_model.specs.Run.{Program, programs}
use Rattle.kr_cli.specs.GhostScripts.{ghost_run_of}
use Rattle.kr_cli_tasks.proofs.GhostSerials.{serial_told}
use Rattle.kr_cli_tasks.proofs.ghost_runs.report_judged.Goals as goal

-- The programs that were judged are those of the run.
pub returns-clause-serial : goal.returns-clause-serial
returns-clause-serial g c =
    let p = g.P.GhostProtocol.ghosts c.args.protocol.now in
    let done : List Program = let r = ghost_run_of p c.args.script.now in programs r.history in
    let are : c.as_slice.result.now ≡ done = c.as_slice.ensures ∙ (rw (c.opening.ensures.pairs, c.moves.ensures.moves) at c.in_ok-ran.ensures.ran.programs) in
    serial_told p c.args.script.now c.in_ok-verdict.verdict c.is_serial.result c.as_slice.result.now are (rw c.opening-2.ensures.pairs at c.in_ok-verdict.ensures) c.is_serial.ensures

-- Under a safe protocol they are serializable.
pub returns-clause-safe : goal.returns-clause-safe
returns-clause-safe g c safe =
    let p = g.P.GhostProtocol.ghosts c.args.protocol.now in
    let done : List Program = let r = ghost_run_of p c.args.script.now in programs r.history in
    let are : c.in_ok-ran.ran.programs ≡ done = rw (c.opening.ensures.pairs, c.moves.ensures.moves) at c.in_ok-ran.ensures.ran.programs in
    (returns-clause-serial g c).1 (rw (c.opening.ensures.pairs, are) at (c.in_ok-ran.ensures.safe safe))
