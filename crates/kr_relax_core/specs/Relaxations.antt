-- Relaxations of a table: changes of one entry that let more through, and keep the table safe.
use Rattle.std.specs.Prelude.{◌≡◌, ℕ, ◌==◌, ◌≤◌, true, List, All, Contains, map, filter}
use Rattle.std.specs.List.{AllPairs}
use Rattle.kr_kinds.specs.Kinds.{IndexProtocol, IsSafeIndex}
use Rattle.kr_change.specs.declared.change.Change.{Change}
use Rattle.kr_change.specs.GhostChanges.{changed_index, is_index_change}
use Rattle.kr_change.specs.GhostEvery.{index_changes_of}
use Rattle.kr_relax_core.specs.declared.relax.Relaxed.{Relaxed}
use Rattle.kr_relax_core.specs.Selects.{Selects}
use Rattle.kr_relax_core.specs.Twins.{IsWeaker, GrantsMore}
use Rattle.kr_relax_core.specs.Width.{IsWidth}

-- The change of one entry makes no lock stronger where that can be seen, lets more through somewhere, and the table with it is safe.
pub record IsRelaxation (p : IndexProtocol) (c : Change) : Type 0 where
  pub change : is_index_change p c ≡ true
  pub weaker : IsWeaker p (changed_index p c)
  pub more : GrantsMore p (changed_index p c)
  pub safe : IsSafeIndex (changed_index p c)

-- The change is a relaxation, and its width is its width.
pub record IsRelaxed (p : IndexProtocol) (x : Relaxed) : Type 0 where
  pub relaxation : IsRelaxation p x.change
  pub width : IsWidth p x.change x.width

-- The changes of a list.
abbrev pub changes_in : List Relaxed → List Change
changes_in list = map (λ x. x.change) list

-- The widest come first.
abbrev pub AreFalling : List Relaxed → Type 0
AreFalling list = AllPairs (λ x y. y.width ≤ x.width) list

-- Those of one width, in their order.
abbrev pub of_width : ℕ → List Relaxed → List Relaxed
of_width w list = filter (λ x. x.width == w) list

-- Of each width, two lists have the same, in the same order.
abbrev pub AreAlike : List Relaxed → List Relaxed → Type 0
AreAlike list other = (w : ℕ) → of_width w list ≡ of_width w other

-- The list has exactly the changes of one entry that are relaxations, the widest first, and those of one width in their order.
pub record AreRelaxations (p : IndexProtocol) (list : List Relaxed) : Type 0 where
  pub each : All (IsRelaxed p) list
  pub all : (c : Change) → Contains (index_changes_of p) c → IsRelaxation p c → Contains (changes_in list) c
  pub falling : AreFalling list
  -- the relaxations in the order of the changes
  pub selected : List Relaxed
  pub order : Selects (IsRelaxation p) (index_changes_of p) (changes_in selected)
  pub alike : AreAlike list selected

-- No change of one entry is a relaxation.
abbrev pub IsTight : IndexProtocol → Type 0
IsTight p = (c : Change) → Contains (index_changes_of p) c → IsRelaxation p c → ⊥
