use Rattle.std.specs.Prelude.{◌≡◌, ◌↔◌, ◌++◌, ◌∷◌, [], ℕ, List, IsTrue, Option, None, map, string_bytes}
use Rattle.std.proofs.Common.{ap, ◌∙◌, subst}
use Rattle.std.proofs.lemmas.Result.{IfOk-weaker}
use Rattle.kr_trace_lines.specs.declared.deviation.Deviation.{Deviation}
use Rattle.kr_trace_parts.specs.Printed.{IsSerialVerdict, deviation_in, queued_in}
use Rattle.kr_trace_parts.specs.Tales.{committed_in}
use Rattle.kr_trace_parts.proofs.FollowLaws.{same_text}
use Rattle.kr_trace_parts.proofs.follow.FollowedPart.end.Goals as goal

pub returns : goal.returns
returns g c s h _ =
    let p = g.P.Protocol.table c.args.self.protocol.now in
    let names = g.P.Protocol.names c.args.self.protocol.now in
    let v = c.verdict_of-verdict.result in
    let found : c.args.self.found ≡ deviation_in p s = h.deviates ∙ ap (λ z. z.found) h.followed ∙ c.lines_are_followed.ensures.found p s.opening s.steps in
    let queued : c.queued-queued.result ≡ queued_in p s = c.queued-queued.ensures ∙ ap (λ z. let at = z.at in at.queued) h.followed in
    let texts : map string_bytes c.as_slice.result.now ≡ s.tests = ap (map string_bytes) c.as_slice.ensures.value ∙ h.texts in
    let text = ap (λ (z : List ℕ). z ++ 10 ∷ []) (same_text names c.args.part c.args.self.found (deviation_in p s) c.queued-queued.result (queued_in p s) (map string_bytes c.as_slice.result.now) s.tests v found queued texts) in
    IfOk-weaker c.told.result _ _
    (λ end k. (
      v,
      (
        c.verdict_of-verdict.ensures s.opening (committed_in s.steps) h.judged.first,
        (k.0 ∙ text, subst (λ (d : Option Deviation). IsTrue end.1 ↔ ((d ≡ None) × IsSerialVerdict v)) found k.1),
      ),
    ))
    c.told.ensures
