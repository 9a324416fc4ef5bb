use Rattle.std.specs.Prelude.{◌≡◌, Option, Some, refl}
use Rattle.std.proofs.Common.{◌∙◌, ap, inl, subst}
use Rattle.std.proofs.lemmas.Result.{IfOk-weaker}
use Rattle.kr_trace_lines.specs.declared.deviation.Deviation.{Deviation}
use Rattle.kr_trace_parts.specs.Printed.{deviation_in, printed}
use Rattle.kr_cli_trace.specs.OnePart.{IsShown}
use Rattle.kr_cli_trace.proofs.one_part.Watched.text.Goals as goal

pub returns : goal.returns
returns g c s h =
    let p = g.P.Protocol.table c.args.protocol.now in
    let names = g.P.Protocol.names c.args.protocol.now in
    let found : c.args.self.found ≡ deviation_in p s = h.deviates ∙ ap (λ z. z.found) h.followed ∙ c.lines_are_followed.ensures.found p s.opening s.steps in
    IfOk-weaker c.text_of.result _ _ (λ end k. inl (refl, subst (λ (d : Option Deviation). IsShown names c.args.part s d (printed (Some end.0)) end.1) found k))
    (c.text_of.ensures s (c.as_slice.ensures ∙ h.opens) h.keeps)
