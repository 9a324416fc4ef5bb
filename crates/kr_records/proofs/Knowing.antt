-- What is known of the first cells of a row.
use Rattle.std.proofs.Common.{◌≡◌, ℕ, ◌≤◌, List, length, map, take, ap, sym, ◌∙◌, subst}
use mathlib.Core.List.{IsPrefix}
use Rattle.kr_records.specs.Owned.{name_in, value_in}
use Rattle.kr_records.proofs.RowLists.{length-map, take_length, prefix_take}

module _ {X : Type 0} where
  -- how many they are
  pub known_length : (ps : List (ℕ × X)) (n : ℕ) (names : List ℕ) → n ≤ length names → map name_in ps ≡ take n names → length (map value_in ps) ≡ n
  known_length ps n names le are = length-map value_in ps ∙ sym (length-map name_in ps) ∙ ap (λ (l : List ℕ). length l) are ∙ take_length n names le

  -- the cells of the shorter begin those of the longer
  pub names_begin : (ps qs : List (ℕ × X)) (n m : ℕ) (names : List ℕ) → n ≤ m → map name_in ps ≡ take n names → map name_in qs ≡ take m names → IsPrefix (map name_in ps) (map name_in qs)
  names_begin ps qs n m names le are ares = subst (λ (l : List ℕ). IsPrefix l (map name_in qs)) (sym are) (subst (λ (l : List ℕ). IsPrefix (take n names) l) (sym ares) (prefix_take n m names le))
