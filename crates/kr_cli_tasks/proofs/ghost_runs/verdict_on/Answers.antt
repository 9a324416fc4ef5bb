use Rattle.std.proofs.Common.{sym, refl}
use Rattle.kr_cli_tasks.proofs.GhostSerials.{covered_serial, covered_verdict}
use Rattle.kr_cli_tasks.proofs.ghost_runs.verdict_on.Goals as goal

-- Under a covered protocol the verdict is `Serial`.
pub returns-then-is_covered-clause-verdict : goal.returns-then-is_covered-clause-verdict
returns-then-is_covered-clause-verdict g c =
    sym (covered_verdict (g.P.GhostProtocol.ghosts c.args.protocol.now) (g.met.P.GhostProtocol.lawful_ghosts c.args.protocol.now) (c.requires c.if-is_covered.true) c.args.script.now c.opening-opening.ensures.kept.rising)

-- So is the run.
pub returns-then-is_covered-clause-serial : goal.returns-then-is_covered-clause-serial
returns-then-is_covered-clause-serial g c =
    (λ v. covered_serial (g.P.GhostProtocol.ghosts c.args.protocol.now) (g.met.P.GhostProtocol.lawful_ghosts c.args.protocol.now) (c.requires c.if-is_covered.true) c.args.script.now c.opening-opening.ensures.kept.rising, λ h. refl)
