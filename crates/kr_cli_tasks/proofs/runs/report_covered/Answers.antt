use Rattle.std.proofs.Common.{◌≡◌, refl, string_bytes}
use Rattle.kr_report.specs.Report.{run_text}
use Rattle.kr_judge.specs.Verdicts.{verdict_of_run}
use Rattle.kr_judge.specs.declared.verdict.Verdict.TheVariants.{Serial}
use Rattle.kr_cli_tasks.specs.Runs.{report_text}
use Rattle.kr_cli_tasks.proofs.Covered.{covered_script, covered_verdict, same_text}
use Rattle.kr_cli_tasks.proofs.runs.report_covered.Goals as goal

pub returns-in_err-played-clause-serial : goal.returns-in_err-played-clause-serial
returns-in_err-played-clause-serial g c =
    let s = c.args.script.now in
    covered_script (g.P.Protocol.table c.args.protocol.now) (g.met.P.Protocol.lawful c.args.protocol.now) c.requires s c.opening.ensures.kept.rising

pub returns-clause-serial : goal.returns-clause-serial
returns-clause-serial g c =
    let s = c.args.script.now in
    covered_script (g.P.Protocol.table c.args.protocol.now) (g.met.P.Protocol.lawful c.args.protocol.now) c.requires s c.opening.ensures.kept.rising

pub returns-clause-text : goal.returns-clause-text
returns-clause-text g c =
    let p = g.P.Protocol.table c.args.protocol.now in
    let names = g.P.Protocol.names c.args.protocol.now in
    let s = c.args.script.now in
    let shown = c.in_ok-played.ensures in
    let judged : verdict_of_run p s.opening s.steps ≡ Serial = covered_verdict p (g.met.P.Protocol.lawful c.args.protocol.now) c.requires s c.opening.ensures.kept.rising in
    let played = c.in_ok-played.played in
    same_text string_bytes c.report_played.result (run_text names played.index played.locks played.replies played.unfinished Serial) (report_text p names s)
    (rw (shown.index, shown.locks, shown.replies, shown.unfinished, c.opening.ensures.pairs, c.steps.ensures.events, judged) refl)
    c.report_played.ensures.text
