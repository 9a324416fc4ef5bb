use Rattle.std.proofs.Common.{ap, ◌∙◌, ◌++◌, ◌∷◌, [], codes, decimal, map, string_bytes, option_map}
use Rattle.std.specs.Prelude.{is_some}
use Rattle.serde_json.specs.Written.{compact_text}
use Rattle.kr_trace_lines.specs.Report.{conforms_data, tests_text, verdict_data}
use Rattle.kr_trace_lines.proofs.Texts.{is_some-map, laid_by_five, part_is}
use Rattle.kr_trace_lines.proofs.report.write_part.Goals as goal

pub returns : goal.returns
returns g c =
    let names = g.P.Protocol.names c.args.protocol.now in
    let d = option_map (λ x. x.now) c.args.deviation in
    let tests = map string_bytes c.args.tests.now in
    laid_by_five []
    (string_bytes c.push_str.new.self)
    (string_bytes c.write_conforms.new.out)
    (string_bytes c.write_counts.new.out)
    (string_bytes c.write_tests.new.out)
    (string_bytes c.write_end.new.out)
    (codes "{\"conforms\":")
    (compact_text (conforms_data names d))
    (codes ",\"part\":" ++ (decimal c.args.part ++ (codes ",\"queued\":" ++ decimal c.args.queued)))
    (tests_text (is_some d) tests)
    (codes ",\"verdict\":" ++ (compact_text (verdict_data c.args.verdict.now) ++ 125 ∷ []))
    (c.in_ok-push_str.ensures.bytes ∙ ap (λ l. l ++ codes "{\"conforms\":") c.new-out.ensures.bytes)
    c.in_ok-write_conforms.ensures
    c.in_ok-write_counts.ensures
    (c.in_ok-write_tests.ensures ∙ ap (λ b. string_bytes c.write_counts.new.out ++ tests_text b tests) (c.is_some.ensures ∙ is_some-map (λ x. x.now) c.args.deviation))
    c.in_ok-write_end.ensures
    ∙ part_is names c.args.part d c.args.queued tests c.args.verdict.now
