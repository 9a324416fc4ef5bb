-- The modes of a set, one after another.
use Rattle.std.proofs.Common.{◌≡◌, ◌==◌, ◌++◌, ◌∷◌, [], ℕ, ◌+◌, List, true, false, cond, ap, sym, ◌∙◌}
use Rattle.std.specs.Prelude.{filter, Bool}
use Rattle.std.specs.Int.{bit_at}
use Rattle.std.proofs.lemmas.List.{append-nil}
use Rattle.std.proofs.lemmas.List.Elements.{filter-append}
use Rattle.kr_model.specs.Covers.{count_up}
use Rattle.kr_cases.proofs.Counted.{before-more}

-- whether the set has the mode m
abbrev pub has : ℕ → ℕ → Bool
has set m = bit_at set m == 1

one_more : (set m : ℕ) → filter (has set) (count_up 0 (m + 1)) ≡ filter (has set) (count_up 0 m) ++ cond (has set m) (m ∷ []) []
one_more set m = ap (filter (has set)) (before-more m) ∙ filter-append (has set) (count_up 0 m) (m ∷ [])

-- one mode more, that is in the set
pub put_mode : (set m : ℕ) (xs ys : List ℕ) → xs ≡ filter (has set) (count_up 0 m) → has set m ≡ true → ys ≡ xs ++ m ∷ [] → ys ≡ filter (has set) (count_up 0 (m + 1))
put_mode set m xs ys so is more = more ∙ ap (λ (zs : List ℕ). zs ++ m ∷ []) so ∙ sym (one_more set m ∙ ap (λ b. filter (has set) (count_up 0 m) ++ cond b (m ∷ []) []) is)

-- one that isn't
pub kept_modes : (set m : ℕ) (xs ys : List ℕ) → xs ≡ filter (has set) (count_up 0 m) → has set m ≡ false → ys ≡ xs → ys ≡ filter (has set) (count_up 0 (m + 1))
kept_modes set m xs ys so isnt same = same ∙ so ∙ sym (one_more set m ∙ ap (λ b. filter (has set) (count_up 0 m) ++ cond b (m ∷ []) []) isnt ∙ append-nil (filter (has set) (count_up 0 m)))
