-- The transactions that have ended, as contracts see them, and the two lists in which their numbers stand.
use Rattle.std.specs.Prelude.{ℕ, ◌≡◌, ◌==◌, ◌&&◌, false, List, [], ◌∷◌}
use Rattle.std.specs.List.{list_any}
use Rattle.std.specs.List.Sorted.{IsStrictlyIncreasing}
use Rattle.kr_model.specs.Locks.{add_once}

-- The numbers, rising, and how many more have their memory.
pub record EndedNumbers : Type 0 where
  pub numbers : List ℕ
  pub room : ℕ

-- The numbers of either list, rising where the second list rises.
abbrev pub union : List ℕ → List ℕ → List ℕ
union [] ys = ys
union (x ∷ xs) ys = add_once x (union xs ys)

-- No number is in both lists.
abbrev pub AreApart : List ℕ → List ℕ → Type 0
AreApart xs ys = (u : ℕ) → (list_any (λ v. v == u) xs && list_any (λ v. v == u) ys) ≡ false

-- The settled numbers rise, the recent ones rise, and no number is in both.
pub record AreEnded (settled recent : List ℕ) : Type 0 where
  pub settled_rise : IsStrictlyIncreasing settled
  pub recent_rise : IsStrictlyIncreasing recent
  pub apart : AreApart settled recent
