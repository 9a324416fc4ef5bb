use Rattle.std.specs.Prelude.{◌++◌, ◌∷◌, [], ℕ, List, Option, map, string_bytes}
use Rattle.std.proofs.Common.{ap, ◌∙◌}
use Rattle.kr_trace_lines.specs.declared.deviation.Deviation.{Deviation}
use Rattle.kr_trace_lines.specs.Report.{part_text}
use Rattle.kr_trace_parts.proofs.follow.told.Goals as goal

pub returns : goal.returns
returns g c =
    let told = λ (d : Option Deviation). part_text (g.P.Protocol.names c.args.protocol.now) c.args.part d c.args.queued (map string_bytes c.args.tests.now) c.args.verdict.now in
    (ap (λ (z : List ℕ). z ++ 10 ∷ []) (c.in_ok-line.ensures ∙ ap told c.as_ref.ensures.value), c.is_well.ensures)
