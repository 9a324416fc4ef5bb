use Rattle.std.specs.Prelude.{◌≡◌, List, map, string_bytes}
use Rattle.std.proofs.Common.{◌∙◌, ap, subst}
use Rattle.kr_model.specs.Map.{Map}
use Rattle.kr_trace_follow.specs.Lines.{Line}
use Rattle.kr_trace_text.specs.declared.steps.LoggedStep.{LoggedStep}
use Rattle.kr_trace_text.specs.Whole.{part_words}
use Rattle.kr_trace_parts.specs.Committed.{IsVerdict}
use Rattle.kr_cli_trace.specs.OnePart.{line_of, logged}
use Rattle.kr_trace_parts.specs.Tales.{committed_in}
use Rattle.kr_cli_trace.proofs.OnePartLaws.{lines_of_logged, same_part, text_shown}
use Rattle.kr_cli_trace.proofs.texts.text_of.Goals as goal

pub returns : goal.returns
returns g c s opens keeps =
    let names = g.P.Protocol.names c.args.protocol.now in
    let n = c.args.part in
    let d = c.args.found.now in
    let v = c.in_ok-verdict.verdict in
    let part : string_bytes c.in_ok-text.text ≡ part_words names n s.opening (map logged s.steps) d =
    c.in_ok-text.ensures ∙ same_part names n c.args.opening.now c.as_slice.result.now _ d s opens (c.as_slice.ensures.value ∙ keeps) c.as_ref.ensures.value in
    let lines : map line_of c.args.steps.items ≡ s.steps = ap (λ (ls : List LoggedStep). map line_of ls) keeps ∙ lines_of_logged s.steps in
    let verdict : IsVerdict s.opening (committed_in s.steps) v =
    subst (λ (m : Map). IsVerdict m (committed_in s.steps) v) opens
    (subst (λ (ls : List Line). IsVerdict c.args.opening.now (committed_in ls) v) lines c.in_ok-verdict.ensures) in (
      v,
      (
        verdict,
        (
          text_shown names n s d v (string_bytes c.in_ok-text.text) (string_bytes c.push_str.new.self) (string_bytes c.push_str-2.new.self) c.as_str.result.now
              part c.in_ok-push_str.ensures.bytes c.in_ok-push_str-2.ensures.bytes (c.as_str.ensures.value ∙ c.in_ok-sentence.ensures),
          c.is_well.ensures,
        ),
      ),
    )
