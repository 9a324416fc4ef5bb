use Rattle.std.proofs.Common.{rules}
use Rattle.std.specs.Prelude.{ℕ, List}
use Rattle.std.proofs.Common.{subst}
use Rattle.kr_view_scenes.specs.Parts.{IsMadeOfParts}
use Rattle.kr_view_run.proofs.frame.framed.Goals as goal

pub returns-clause-before : goal.returns-clause-before
returns-clause-before c = let P : List ℕ → Type 0 = λ b. IsMadeOfParts b in subst P c.as_str.ensures.written c.as_str.ensures.parts

pub returns-clause-behind : goal.returns-clause-behind
returns-clause-behind c = let P : List ℕ → Type 0 = λ b. IsMadeOfParts b in subst P c.as_str-3.ensures.written c.as_str-3.ensures.parts

pub returns-clause-page : goal.returns-clause-page
returns-clause-page c = search rules
