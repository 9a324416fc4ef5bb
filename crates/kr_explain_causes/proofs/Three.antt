-- Lists of three reasons, of which some may be absent.
use Rattle.std.specs.Prelude.{◌≡◌, ℕ, zero, suc, ◌<◌, List, [], ◌∷◌, All, Option, None, IfSome}
use Rattle.std.proofs.Common.{sym, subst, arith}
use Rattle.std.proofs.lemmas.List.Elements.{All-weaker}

-- what holds of three holds of each
pub all_three : {X : Type 0} (P : X → Type 0) (a b c : X) → P a → P b → P c → All P (a ∷ b ∷ c ∷ [])
all_three P a b c pa pb pc zero d low = pa
all_three P a b c pa pb pc (suc zero) d low = pb
all_three P a b c pa pb pc (suc (suc zero)) d low = pc
all_three P a b c pa pb pc (suc (suc (suc k))) d low = absurd (past k low)
  where
    past : (k : ℕ) → suc (suc (suc k)) < 3 → ⊥
    past k low = omega arith

-- where none is there, each that is there has what one likes
pub all_none : {X : Type 0} (P : X → Type 0) (xs : List (Option X)) → All (λ o. o ≡ None) xs → All (λ o. IfSome o P) xs
all_none {X} P xs none = All-weaker (λ o. o ≡ None) (λ o. IfSome o P) (λ o e. subst (λ (x : Option X). IfSome x P) (sym e) tt) xs none
