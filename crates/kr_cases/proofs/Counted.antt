-- Numbers in order, as far as a loop has counted.
use Rattle.std.proofs.Common.{◌≡◌, ℕ, zero, suc, ◌+◌, ◌-◌, ◌<◌, [], ◌∷◌, ◌++◌, ap, arith}
use Rattle.kr_model.specs.Protocol.{Protocol}
use Rattle.kr_model.specs.Covers.{count_up, modes, modes_or_none}

-- the numbers from a, and one more
pub count_up-more : (a n : ℕ) → count_up a (n + 1) ≡ count_up a n ++ (a + n) ∷ []
count_up-more a zero = grind arith
count_up-more a (suc n) = let e = count_up-more (suc a) n in grind (arith, e)

-- the numbers from a are those before a + k, that one, and those after it
pub count_up-split : (a n k : ℕ) → k < n → count_up a n ≡ count_up a k ++ (a + k) ∷ count_up (a + k + 1) (n - (k + 1))
count_up-split a zero k low = absurd (omega arith)
count_up-split a (suc n) zero low = grind arith
count_up-split a (suc n) (suc k) low = let e = count_up-split (suc a) n k (omega arith) in grind (arith, e)

-- the numbers from 1 below m, and m
pub below-more : (m : ℕ) → 0 < m → count_up 1 (m + 1 - 1) ≡ count_up 1 (m - 1) ++ m ∷ []
below-more zero some = absurd (omega arith)
below-more (suc m) some = let e = count_up-more 1 m in grind (arith, e)

-- the numbers below k, and k
pub before-more : (k : ℕ) → count_up 0 (k + 1) ≡ count_up 0 k ++ k ∷ []
before-more k = let e = count_up-more 0 k in grind (arith, e)

-- the numbers below n are those below k, k, and those after it
pub before-split : (n k : ℕ) → k < n → count_up 0 n ≡ count_up 0 k ++ k ∷ count_up (k + 1) (n - (k + 1))
before-split n k low = let e = count_up-split 0 n k low in grind (arith, e)

-- all modes are counted
pub all_modes : (p : Protocol) (k : ℕ) → k ≡ p.count + 1 → count_up 1 (k - 1) ≡ modes p
all_modes p k e = let same : k - 1 ≡ p.count = omega arith in ap (count_up 1) same

-- none and all modes are counted
pub all_modes_or_none : (p : Protocol) (k : ℕ) → k ≡ p.count + 1 → count_up 0 k ≡ modes_or_none p
all_modes_or_none p k e = let same : k ≡ suc p.count = omega arith in ap (count_up 0) same
