use Rattle.std.proofs.Common.{◌≡◌, ◌<◌, ◌++◌, [], ◌∷◌, map, take, length, get_or, string_bytes, sym, ap, ◌∙◌, arith, append_assoc}
use Rattle.kr_report.specs.Report.{verdict_text}
use Rattle.kr_cli_tasks.specs.Judges.{lines, reports_of}
use Rattle.kr_cli_tasks.proofs.Reported.{lines_more, lines_all}
use Rattle.kr_cli_tasks.proofs.judges.lines_of.Goals as goal

pub loop-i-preserved : goal.loop-i-preserved
loop-i-preserved c =
    let names = c.args.names.now in
    let verdicts = c.args.verdicts.now in
    let i = c.loop-i.i in
    let verdict = c.index-verdicts-i.result in
    let so_far = lines (reports_of (map (λ n. n.now) (take i names)) (take i verdicts)) in
    let named : length names ≡ length verdicts = c.requires in
    let low : i < length verdicts = c.loop-i-test.true in
    let told : string_bytes c.in_ok-report.report ≡ verdict_text (get_or names i _).now verdict = c.in_ok-report.ensures.text in
    c.in_ok-push_str-2.ensures.bytes
    ∙ ap (λ l. l ++ 10 ∷ []) (
    c.in_ok-push_str.ensures.bytes
    ∙ ap (λ l. l ++ c.as_str.result.now) c.loop-i.invariant
    ∙ ap (λ t. so_far ++ t) (c.as_str.ensures.value ∙ told ∙ ap (verdict_text (get_or names i _).now) c.index-verdicts-i.is)
    )
    ∙ append_assoc so_far _ (10 ∷ [])
    ∙ sym (lines_more (λ n. n.now) names verdicts i _ verdict (omega (arith, named, low)) low)

pub returns : goal.returns
returns c = c.loop-i.invariant ∙ lines_all (λ n. n.now) c.args.names.now c.args.verdicts.now c.loop-i.i (omega (arith, c.requires, c.loop-i-test.false))
