-- A scan's step, by what the code finds.
use Rattle.std.proofs.Common.{◌≡◌, ℕ, suc, ◌-◌, Some, List, [], ◌∷◌, ap, length, arith, slice_get}
use Rattle.kr_model.specs.Map.{Map, after}
use Rattle.kr_model.specs.Step.{name_after}

one_less : (n : ℕ) → suc n - 1 ≡ n
one_less n = omega arith

-- After a last row the next name is that after its key.
pub name_after_last : (m : Map) (lo : ℕ) (rows : List (ℕ × ℕ)) (e : ℕ × ℕ) → slice_get rows (length rows - 1) ≡ Some e → name_after m lo rows ≡ after m e.0
name_after_last m lo [] e h = cc
name_after_last m lo (x ∷ []) e h = let same : x ≡ e = cc in ap (λ (r : ℕ × ℕ). after m r.0) same
name_after_last m lo (x ∷ y ∷ ys) e h = name_after_last m lo (y ∷ ys) e (rw (one_less (length ys)) (rw (one_less (suc (length ys))) at h))
