-- What is known of several cells, and what a token of it owns.
use Rattle.std.specs.Prelude.{ℕ, List, [], ◌∷◌, Option, None, Some}
use base.Fml.{Fml, ftrue, fsep}
use denote.RattleType.{RattleType}
use Rattle.once_cell.specs.Once.{noted}

-- the cell's name
abbrev pub name_in : {X : Type 0} → ℕ × X → ℕ
name_in p = p.0

-- its value
abbrev pub value_in : {X : Type 0} → ℕ × X → X
value_in p = p.1

-- the cell with its value, if that is known
abbrev pub told : {X : Type 0} → ℕ → Option X → List (ℕ × X)
told cell None = []
told cell (Some x) = (cell, x) ∷ []

-- each of these cells has this value for good
abbrev pub all_noted : (R : RattleType) → List (ℕ × R.Denot) → Fml
all_noted R [] = ftrue
all_noted R (p ∷ ps) = fsep (noted R p.0 (Some p.1)) (all_noted R ps)
