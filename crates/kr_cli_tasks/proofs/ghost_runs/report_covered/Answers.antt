use Rattle.std.proofs.Common.{◌≡◌, refl, string_bytes}
use Rattle.kr_judge.specs.declared.verdict.Verdict.TheVariants.{Serial}
use Rattle.kr_ghost_run.specs.Ran.{verdict_of_moves}
use Rattle.kr_ghost_report.specs.RunReport.{ghost_run_text}
use Rattle.kr_cli_tasks.specs.GhostRuns.{ghost_report_text}
use Rattle.kr_cli_tasks.proofs.Covered.{same_text}
use Rattle.kr_cli_tasks.proofs.GhostSerials.{covered_serial, covered_verdict}
use Rattle.kr_cli_tasks.proofs.ghost_runs.report_covered.Goals as goal

pub returns-in_err-played-clause-serial : goal.returns-in_err-played-clause-serial
returns-in_err-played-clause-serial g c =
    covered_serial (g.P.GhostProtocol.ghosts c.args.protocol.now) (g.met.P.GhostProtocol.lawful_ghosts c.args.protocol.now) c.requires c.args.script.now c.opening.ensures.kept.rising

pub returns-clause-serial : goal.returns-clause-serial
returns-clause-serial g c =
    covered_serial (g.P.GhostProtocol.ghosts c.args.protocol.now) (g.met.P.GhostProtocol.lawful_ghosts c.args.protocol.now) c.requires c.args.script.now c.opening.ensures.kept.rising

-- Nobody had to judge that the verdict is `Serial`.
pub returns-clause-text : goal.returns-clause-text
returns-clause-text g c =
    let p = g.P.GhostProtocol.ghosts c.args.protocol.now in
    let names = g.P.Protocol.names c.args.protocol.now in
    let s = c.args.script.now in
    let shown = c.in_ok-played.ensures in
    let judged : verdict_of_moves p s.opening s.moves ≡ Serial = covered_verdict p (g.met.P.GhostProtocol.lawful_ghosts c.args.protocol.now) c.requires s c.opening.ensures.kept.rising in
    let played = c.in_ok-played.played in
    same_text string_bytes c.report_ghost_played.result (ghost_run_text names played.ghosts played.index played.locks played.answers played.unfinished Serial) (ghost_report_text p names s)
    (rw (shown.ghosts, shown.index, shown.locks, shown.answers, shown.unfinished, c.opening.ensures.pairs, c.moves.ensures.moves, judged) refl)
    c.report_ghost_played.ensures.text
