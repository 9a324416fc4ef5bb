-- Copies of entries, and the shares so far.
use Rattle.std.proofs.Common.{◌≡◌, ℕ, zero, suc, ◌+◌, List, [], ◌∷◌, ◌++◌, take, Some, ap, ◌∙◌, arith}
use Rattle.std.specs.Prelude.{slice_get}
use Rattle.kr_records.specs.declared.name.Entry.{Entry}

take_next : {A : Type 0} (ys : List A) (k : ℕ) (e : A) → slice_get ys k ≡ Some e → take k ys ++ e ∷ [] ≡ take (suc k) ys
take_next [] k e h = absurd cc
take_next (y ∷ ys) zero e h = cc (h)
take_next (y ∷ ys) (suc k) e h = ap (λ l. y ∷ l) (take_next ys k e h)

-- One copy more.
pub copied : (view es es' : List Entry) (k : ℕ) (x x' : Entry) → es ≡ take k view → slice_get view k ≡ Some x → x' ≡ x → es' ≡ es ++ x' ∷ [] → es' ≡ take (k + 1) view
copied view es es' k x x' first is same more =
    let next : suc k ≡ k + 1 = omega arith in
    more ∙ (λ i. first i ++ same i ∷ []) ∙ take_next view k x is ∙ ap (λ (n : ℕ). take n view) next
