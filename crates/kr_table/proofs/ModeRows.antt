-- The bits of a row, one after another.
use Rattle.std.specs.Prelude.{◌≡◌, ◌≢◌, ℕ, zero, suc, ◌<◌, ◌+◌, ◌*◌, ◌%◌, ◌^◌, Bool, true, false, not, ◌&&◌, cond, nat_lt, nat_le, refl, List, length, slice_index_or}
use Rattle.std.specs.Int.{bit_at, w16}
use Rattle.std.specs.Int.RustNames.{bit_or}
use Rattle.std.proofs.Common.{arith, ap, sym, ◌∙◌, ◌⊎◌, inl, inr, subst, set}
use Rattle.std.proofs.lemmas.Grind.{common_steps}
use Rattle.std.proofs.lemmas.Bool.Decides.{nat_tests}
use Rattle.std.proofs.lemmas.Nat.Bits.{bit_at_set_same, bit_at_set_other, bit_at-zero}
use Rattle.kr_table.specs.Matrix.{Matrix, ok_of, IsRowOf}

-- the bits below n are right: those of what f says no to, but bit 0
abbrev pub IsRowTo : (ℕ → Bool) → ℕ → ℕ → Type 0
IsRowTo f n r = (h : ℕ) → bit_at r h ≡ cond ((nat_lt 0 h && nat_lt h n) && not (f h)) 1 0

same_or_other : (h n : ℕ) → (h ≡ n) ⊎ (h ≢ n)
same_or_other h n = grind (arith, nat_tests)

one_more_test : (h n : ℕ) → h ≢ n → nat_lt h (n + 1) ≡ nat_lt h n
one_more_test h n e = grind (arith, nat_tests)

here_test : (n : ℕ) → nat_lt n (n + 1) ≡ true
here_test n = grind (arith, nat_tests)

some_test : (n : ℕ) → 0 < n → nat_lt 0 n ≡ true
some_test n lt = grind (arith, nat_tests)

at_end : (h n : ℕ) → nat_lt h (n + 1) ≡ nat_le h n
at_end h n = grind (arith, nat_tests)

-- a bit that is set
pub row_set : (f : ℕ → Bool) (n r : ℕ) → 0 < n → n < 16 → f n ≡ false → IsRowTo f n r → IsRowTo f (n + 1) (bit_or r (1 * 2 ^ n % 2 ^ 16))
row_set f n r some small e is h = by (same_or_other h n)
  where
    by : (h ≡ n) ⊎ (h ≢ n) → bit_at (bit_or r (1 * 2 ^ n % 2 ^ 16)) h ≡ cond ((nat_lt 0 h && nat_lt h (n + 1)) && not (f h)) 1 0
    by (inl s) = subst (λ (x : ℕ). bit_at (bit_or r (1 * 2 ^ n % 2 ^ 16)) x ≡ cond ((nat_lt 0 x && nat_lt x (n + 1)) && not (f x)) 1 0) (sym s) (bit_at_set_same w16 r n small ∙ sym (one (nat_lt 0 n) (nat_lt n (n + 1)) (f n) (some_test n some) (here_test n) e))
      where
        one : (a b c : Bool) → a ≡ true → b ≡ true → c ≡ false → ◌≡◌ {A = ℕ} (cond ((a && b) && not c) 1 0) 1
        one true true false p q k = refl
        one true true true p q k = absurd (cc)
        one true false c p q k = absurd (cc)
        one false b c p q k = absurd (cc)
    by (inr o) = bit_at_set_other w16 r n small h o ∙ is h ∙ ap (λ (x : Bool). cond ((nat_lt 0 h && x) && not (f h)) 1 0) (sym (one_more_test h n o))

-- a bit that stays clear
pub row_clear : (f : ℕ → Bool) (n r : ℕ) → f n ≡ true → IsRowTo f n r → IsRowTo f (n + 1) r
row_clear f n r e is h = by (same_or_other h n)
  where
    none : (a b c : Bool) → c ≡ true → ◌≡◌ {A = ℕ} (cond ((a && b) && not c) 1 0) 0
    none true true true k = refl
    none true false true k = refl
    none false b true k = refl
    none a b false k = absurd (cc)

    by : (h ≡ n) ⊎ (h ≢ n) → bit_at r h ≡ cond ((nat_lt 0 h && nat_lt h (n + 1)) && not (f h)) 1 0
    by (inl s) = is h ∙ none (nat_lt 0 h) (nat_lt h n) (f h) (ap f s ∙ e) ∙ sym (none (nat_lt 0 h) (nat_lt h (n + 1)) (f h) (ap f s ∙ e))
    by (inr o) = is h ∙ ap (λ (x : Bool). cond ((nat_lt 0 h && x) && not (f h)) 1 0) (sym (one_more_test h n o))

-- Rows by their modes --

-- the row of none
pub none_first : (x : Matrix) (q : ℕ) → q < 1 → IsRowOf x q 0
none_first x q lt h = bit_at-zero h ∙ sym (by q (nat_lt 0 h && nat_le h (length x.names)) lt)
  where
    no_bit : (b : Bool) → ◌≡◌ {A = ℕ} (cond (b && not true) 1 0) 0
    no_bit true = refl
    no_bit false = refl

    by : (q : ℕ) (b : Bool) → q < 1 → ◌≡◌ {A = ℕ} (cond (b && not (ok_of x q h)) 1 0) 0
    by zero b lt = no_bit b
    by (suc q) b lt = absurd (omega arith)

-- one row more
pub rows_more : (x : Matrix) (rows : List ℕ) (n r : ℕ) → n < length rows → ((q : ℕ) → q < n → IsRowOf x q (slice_index_or rows q 0)) → IsRowOf x n r → (q : ℕ) → q < n + 1 → IsRowOf x q (slice_index_or (set rows n r) q 0)
rows_more x rows n r in_range before here q lt = by (before_or_at q n lt)
  where
    before_or_at : (q n : ℕ) → q < n + 1 → (q < n) ⊎ (q ≡ n)
    before_or_at q n lt = grind arith

    others : (xs : List ℕ) (i j x : ℕ) → j < i → slice_index_or xs j 0 ≡ slice_index_or (set xs i x) j 0
    others xs i j x lt = grind (arith, common_steps)

    itself : (xs : List ℕ) (i x : ℕ) → i < length xs → x ≡ slice_index_or (set xs i x) i 0
    itself xs i x lt = grind (arith, common_steps)

    by : (q < n) ⊎ (q ≡ n) → IsRowOf x q (slice_index_or (set rows n r) q 0)
    by (inl less) = subst (λ y. IsRowOf x q y) (others rows n q r less) (before q less)
    by (inr at) = subst (λ p. IsRowOf x p (slice_index_or (set rows n r) p 0)) (sym at) (subst (λ y. IsRowOf x n y) (itself rows n r in_range) here)
