-- The parts in which a scan downwards reads its range.
use Rattle.std.specs.Prelude.{◌≡◌, ℕ, suc, ◌≤◌, ◌<◌, List, [], ◌∷◌}
use Rattle.kr_model.specs.declared.Op.{Op}
use Rattle.kr_model.specs.declared.Op.TheVariants as op
use Rattle.kr_model.specs.declared.Name.TheVariants.{Key}
use Rattle.kr_ghost.specs.State.{GhostState, name_from}

-- From lo to this end there is no name but at the end.
abbrev pub IsSingle : GhostState → ℕ → ℕ → Type 0
IsSingle s lo end = (k : ℕ) → name_from s lo ≡ Key k → end ≤ k

-- The scans cover the range from lo to hi, each key once, the lowest first; and within each a name stands at its end alone, if at all.
pub data AreParts (s : GhostState) : ℕ → ℕ → List Op → Type 0 where
  last : (lo hi : ℕ) → lo ≤ hi → IsSingle s lo hi → AreParts s lo hi (op.Scan lo hi ∷ [])
  more : (lo end hi : ℕ) (rest : List Op) → lo ≤ end → end < hi → IsSingle s lo end → AreParts s (suc end) hi rest → AreParts s lo hi (op.Scan lo end ∷ rest)
