-- The table that is left where one relaxation after another is taken.
use Rattle.std.specs.Prelude.{◌≡◌, ◌↔◌, ℕ, Bool, true, List}
use Rattle.kr_kinds.specs.Kinds.{IndexProtocol, IsSafeIndex}
use Rattle.kr_change.specs.declared.change.Change.{Change}
use Rattle.kr_change.specs.GhostChanges.{changed_index}
use Rattle.kr_table_copy.specs.declared.copying.Copy.{Copy}
use Rattle.kr_table_copy.specs.Same.{IsCopy, index_in, names_in}
use Rattle.kr_relax_core.specs.Relaxations.{IsRelaxation, IsTight}
use Rattle.kr_cli_tables.specs.declared.relaxations.tightest.Taken.{Taken}
use Rattle.kr_cli_tables.specs.declared.relaxations.tightest.Taken.TheVariants.{Tight, Unshown, Relaxed, Unwritten}

-- A relaxation of p is taken: the table u answers as p does with it, and has the same names.
pub record Relaxes (p : IndexProtocol) (names : List (List ℕ)) (u : Copy) : Type 0 where
  pub change : Change
  pub is_relaxation : IsRelaxation p change
  pub copied : IsCopy (changed_index p change) names u

-- A table that answers as p does, or what one relaxation after another made of it.
pub data RelaxedFrom (p : IndexProtocol) (names : List (List ℕ)) : Copy → Type 0 where
  copied : (t : Copy) → IsCopy p names t → RelaxedFrom p names t
  relaxed : (t u : Copy) → RelaxedFrom p names t → Relaxes (index_in t) (names_in t) u → RelaxedFrom p names u

-- What becomes of p where one of its relaxations is taken.
abbrev pub IsTaken : IndexProtocol → List (List ℕ) → Taken → Type 0
IsTaken p names Tight = IsTight p
IsTaken p names Unshown = IsTight p → ⊥
IsTaken p names (Relaxed u) = Relaxes p names u
IsTaken p names Unwritten = Unit {0}

-- A table that relaxations made of p is safe, and said to be tight exactly where it is.
pub record IsTightest (p : IndexProtocol) (names : List (List ℕ)) (t : Copy) (tight : Bool) : Type 0 where
  pub from : RelaxedFrom p names t
  pub safe : IsSafeIndex (index_in t)
  pub is_tight : tight ≡ true ↔ IsTight (index_in t)
