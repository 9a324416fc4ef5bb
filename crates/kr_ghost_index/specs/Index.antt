-- An index with ghosts, as contracts see it.
use Rattle.std.specs.Prelude.{ℕ, ◌+◌, ◌==◌, List, if◌then◌else◌, unwrap_or}
use Rattle.std.specs.Ordering.{nat_cmp}
use Rattle.std.specs.FinMap.{find}
use Rattle.kr_model.specs.Map.{Map}

-- The present keys with their values; the ghosts, rising; and each name with the count of its changes that are left, which can still be undone.
pub record GhostIndex : Type 0 where
  pub map : Map
  pub ghosts : List ℕ
  pub counts : List (ℕ × ℕ)

-- How many changes of k are left, which is 0 where k is no name.
abbrev pub changes : GhostIndex → ℕ → ℕ
changes x k = unwrap_or (find nat_cmp k x.counts) 0

-- The counts with one more change of k.
abbrev pub with_change : (ℕ → ℕ) → ℕ → ℕ → ℕ
with_change counts k q = if q == k then counts q + 1 else counts q
