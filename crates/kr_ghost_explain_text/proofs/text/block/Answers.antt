use Rattle.std.proofs.Common.{◌∷◌, ◌++◌, ap, ◌∙◌, string_bytes}
use Rattle.kr_ghost_explain_text.proofs.text.block.Goals as goal

pub returns : goal.returns
returns g c =
    let said = string_bytes c.in_ok-said.said in
    let fixes = string_bytes c.in_ok-fixes.fixes in
    record {
      said = said;
      fixes = fixes;
      is_mending = c.in_ok-fixes.ensures;
      written = c.in_ok-text.ensures.ok ∙ ap (λ t. 10 ∷ 10 ∷ (t ++ (said ++ fixes))) c.in_ok-title.ensures;
    }
