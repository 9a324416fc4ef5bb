use Rattle.std.proofs.Common.{ℕ, List, subst, ap, ◌∙◌, string_bytes}
use Rattle.kr_explain_text.specs.Lines.{IsParagraph}
use Rattle.kr_explain_text.specs.Edits.{wish_words}
use Rattle.kr_explain_text.proofs.mending.wish_of.Goals as goal

pub returns : goal.returns
returns g c =
    let P : List ℕ → Type 0 = λ w. IsParagraph 3 3 w (string_bytes c.in_ok-text.text) in
    record {
      edit = string_bytes c.in_ok-edit.edit;
      is_edit = c.in_ok-edit.ensures;
      paragraph = subst P (c.as_str-2.ensures.value ∙ c.in_ok-words.ensures ∙ ap (wish_words c.args.aim.now) c.as_str.ensures.value) c.in_ok-text.ensures;
    }
