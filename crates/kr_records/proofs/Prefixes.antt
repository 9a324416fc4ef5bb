-- Beginnings of lists.
use Rattle.std.proofs.Common.{◌≡◌, ◌≤◌, List, [], ◌∷◌, ◌++◌, length, refl, arith}
use mathlib.Core.List.{IsPrefix}

-- A prefix of a list that is no longer than all but its last is a prefix of these.
pub prefix_front : {A : Type 0} (xs ys : List A) (y : A) → IsPrefix xs (ys ++ y ∷ []) → length xs ≤ length ys → (rest : List A) × (ys ≡ xs ++ rest)
prefix_front [] ys y p le = (ys, refl)
prefix_front (x ∷ xs) [] y p le = absurd (omega arith)
prefix_front (x ∷ xs) (z ∷ zs) y p le =
    let head : x ≡ z = cc (p.1) in
    let r = prefix_front xs zs y (p.0, cc (p.1)) (omega arith) in
    (r.0, cc (head, r.1))
