use Rattle.std.specs.Prelude.{ℕ, List}
use Rattle.std.proofs.Common.{subst, sym}
use Rattle.kr_view_scenes.specs.Parts.{IsMadeOfParts}
use Rattle.kr_view_scenes.proofs.html.Html.as_str.Goals as goal

pub returns-clause-parts : goal.returns-clause-parts
returns-clause-parts c = let P : List ℕ → Type 0 = λ b. IsMadeOfParts b in subst P (sym c.as_str.ensures.value) c.self.invariant
