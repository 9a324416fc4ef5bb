-- Steps that have no reply.
use Rattle.std.proofs.Common.{◌≡◌, ◌∙◌, ◌≤◌, ℕ, List, [], ◌∷◌, drop, length, refl, ap}
use Rattle.std.proofs.lemmas.List.{drop_all}
use Rattle.kr_model.specs.declared.Event.{Event}
use Rattle.kr_model.specs.declared.Reply.{Reply}
use Rattle.kr_suite_text.specs.Parts.{lines_text}

-- none of them has a line
no_reply : (es : List Event) → lines_text es [] ≡ []
no_reply [] = refl
no_reply (e ∷ es) = refl

pub no_lines : (n : ℕ) (es : List Event) (rs : List Reply) → length rs ≤ n → lines_text (drop n es) (drop n rs) ≡ []
no_lines n es rs few = ap (λ l. lines_text (drop n es) l) (drop_all n rs few) ∙ no_reply (drop n es)
