use Rattle.std.specs.Prelude.{◌++◌, ◌∷◌, [], List, ℕ, string_bytes}
use Rattle.std.proofs.Common.{◌∙◌, ap, append_assoc}
use Rattle.kr_cli_trace.proofs.texts.with_left_out.Goals as goal

pub returns : goal.returns
returns c =
    let text = string_bytes c.args.text in
    let said = c.as_str.result.now in
    c.in_ok-push_str-2.ensures.bytes ∙ ap (λ (z : List ℕ). z ++ said) c.in_ok-push_str.ensures.bytes ∙ append_assoc text (10 ∷ []) said
    ∙ ap (λ (z : List ℕ). text ++ 10 ∷ z) (c.as_str.ensures.value ∙ c.in_ok-sentence.ensures)
