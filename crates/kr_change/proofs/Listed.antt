-- What a list of lists gives, while it is gone over.
use Rattle.std.proofs.Common.{◌≡◌, ◌≢◌, ◌==◌, false, true, cond, ℕ, zero, suc, ◌+◌, ◌-◌, ◌<◌, ◌^◌, List, [], ◌∷◌, ◌++◌, refl, ap, sym, ◌∙◌, append_assoc, arith}
use Rattle.std.specs.List.{flat_map}
use Rattle.std.proofs.lemmas.Bool.Decides.{nat_tests}
use Rattle.std.proofs.lemmas.List.{append-nil}
use Rattle.std.proofs.lemmas.Grind.{flat_map-append}
use Rattle.kr_model.specs.Protocol.{Protocol}
use Rattle.kr_ghost.specs.Protocol.{GhostProtocol, heir_of}
use Rattle.kr_model.specs.Covers.{count_up, modes, modes_or_none}
use Rattle.kr_change.specs.declared.change.Change.{Change}
use Rattle.kr_change.specs.declared.change.Change.TheVariants.{Convert, Heir}
use Rattle.kr_change.specs.Every.{converted_to}
use Rattle.kr_change.specs.GhostEvery.{heir_to}

module _ {A K : Type 0} (g : K → List A) where
  -- what the lists so far give, and then what one more gives
  pub list_more : (bs now next : List A) (before after : List K) (k : K) → after ≡ before ++ k ∷ []
      → now ≡ bs ++ flat_map g before → next ≡ now ++ g k → next ≡ bs ++ flat_map g after
  list_more bs now next before after k e so_far more =
      more ∙ ap (λ xs. xs ++ g k) so_far
      ∙ append_assoc bs (flat_map g before) (g k)
      ∙ ap (λ xs. bs ++ xs) (last ∙ ap (flat_map g) (sym e))
    where
      last : flat_map g before ++ g k ≡ flat_map g (before ++ k ∷ [])
      last = rw (flat_map-append g before (k ∷ []), append-nil (g k)) refl

-- the numbers from a, and one more
count_up-more : (a n : ℕ) → count_up a (n + 1) ≡ count_up a n ++ (a + n) ∷ []
count_up-more a zero = grind arith
count_up-more a (suc n) = let e = count_up-more (suc a) n in grind (arith, e)

-- the numbers from 1 below m, and m
pub below-more : (m : ℕ) → 0 < m → count_up 1 (m + 1 - 1) ≡ count_up 1 (m - 1) ++ m ∷ []
below-more zero some = absurd (omega arith)
below-more (suc m) some = let e = count_up-more 1 m in grind (arith, e)

-- the numbers below k, and k
pub before-more : (k : ℕ) → count_up 0 (k + 1) ≡ count_up 0 k ++ k ∷ []
before-more k = let e = count_up-more 0 k in grind (arith, e)

-- all modes are counted
pub all_modes : (p : Protocol) (k : ℕ) → k ≡ p.count + 1 → count_up 1 (k - 1) ≡ modes p
all_modes p k e = let same : k - 1 ≡ p.count = omega arith in ap (count_up 1) same

-- none and all modes are counted
pub all_modes_or_none : (p : Protocol) (k : ℕ) → k ≡ p.count + 1 → count_up 0 k ≡ modes_or_none p
all_modes_or_none p k e = let same : k ≡ suc p.count = omega arith in ap (count_up 0) same

not_same : (m n : ℕ) → m ≢ n → (m == n) ≡ false
not_same m n o = grind (arith, nat_tests)

same : (m n : ℕ) → m ≡ n → (m == n) ≡ true
same m n e = grind (arith, nat_tests)

-- a conversion to another mode is one change
pub other_is_one : (p : Protocol) (h q m now : ℕ) → now ≡ p.convert h q → m ≢ now → converted_to p h q m ≡ Convert h q m ∷ []
other_is_one p h q m now e o = ap (λ b. cond b [] (Convert h q m ∷ [])) (not_same m (p.convert h q) (λ s. o (s ∙ sym e)))

-- one to the same mode is none
pub same_is_none : (p : Protocol) (h q m now : ℕ) (xs : List Change) → now ≡ p.convert h q → m ≡ now → xs ≡ xs ++ converted_to p h q m
same_is_none p h q m now xs e s = sym (append-nil xs) ∙ ap (λ ys. xs ++ ys) (sym (ap (λ b. cond b [] (Convert h q m ∷ [])) (same m (p.convert h q) (s ∙ e))))

-- another mode that is inherited is one change
pub other_heir_is_one : (p : GhostProtocol) (h m now : ℕ) → now ≡ heir_of p.purges h → m ≢ now → heir_to p h m ≡ Heir (2 ^ h) m ∷ []
other_heir_is_one p h m now e o = ap (λ b. cond b [] (Heir (2 ^ h) m ∷ [])) (not_same m (heir_of p.purges h) (λ s. o (s ∙ sym e)))

-- the same is none
pub same_heir_is_none : (p : GhostProtocol) (h m now : ℕ) (xs : List Change) → now ≡ heir_of p.purges h → m ≡ now → xs ≡ xs ++ heir_to p h m
same_heir_is_none p h m now xs e s = sym (append-nil xs) ∙ ap (λ ys. xs ++ ys) (sym (ap (λ b. cond b [] (Heir (2 ^ h) m ∷ [])) (same m (heir_of p.purges h) (s ∙ e))))
