-- The row of a request that is compatible with one lock, or isn't, from now on.
use Rattle.std.specs.Prelude.{◌≡◌, ◌≢◌, ℕ, ◌<◌, ◌≤◌, ◌*◌, ◌%◌, ◌^◌, ◌==◌, Bool, true, false, not, ◌&&◌, cond, nat_lt, nat_le, refl}
use Rattle.std.specs.Int.{bit_at, bit_not, w16}
use Rattle.std.specs.Int.RustNames.{bit_and, bit_or}
use Rattle.std.proofs.Common.{arith, ap, sym, ◌∙◌, ◌⊎◌, inl, inr, subst}
use Rattle.std.proofs.lemmas.Bool.Decides.{nat_tests}
use Rattle.std.proofs.lemmas.Nat.Bits.{bit_at_set_same, bit_at_set_other, bit_at_clear_same, bit_at_clear_other, bit_at_and}
use Rattle.kr_model.specs.Protocol.{Protocol}
use Rattle.kr_protocol.specs.Rows.{conflicts, IsRow}
use Rattle.kr_change.specs.declared.change.Change.TheVariants.{Compatible}
use Rattle.kr_change.specs.Changes.{changed, is_mode}

same_or_other : (h n : ℕ) → (h ≡ n) ⊎ (h ≢ n)
same_or_other h n = grind (arith, nat_tests)

same_test : (h : ℕ) → (h == h) ≡ true
same_test h = grind (arith, nat_tests)

other_test : (h n : ℕ) → h ≢ n → (h == n) ≡ false
other_test h n e = grind (arith, nat_tests)

-- a bit of a mode that conflicts from now on
set : (a b c k : Bool) → a ≡ true → b ≡ true → c ≡ true → ◌≡◌ {A = ℕ} (cond (a && not (cond (b && c) false k)) 1 0) 1
set true true true k p q r = refl
set false b c k p q r = absurd (cc)
set true false c k p q r = absurd (cc)
set true true false k p q r = absurd (cc)

-- a bit of a mode that conflicts no more
unset : (a b c k : Bool) → b ≡ true → c ≡ true → ◌≡◌ {A = ℕ} (cond (a && not (cond (b && c) true k)) 1 0) 0
unset true true true k q r = refl
unset false true true k q r = refl
unset a false c k q r = absurd (cc)
unset a true false k q r = absurd (cc)

-- a bit that stays as it is
as_it_is : (a b c d k : Bool) → c ≡ false → ◌≡◌ {A = ℕ} (cond (a && not k) 1 0) (cond (a && not (cond (b && c) d k)) 1 0)
as_it_is a true false d k e = refl
as_it_is a false false d k e = refl
as_it_is a b true d k e = absurd (cc)

-- a number above 15 is no mode
none_above : (p : Protocol) (k : ℕ) (x : Bool) → p.count ≤ 15 → 16 ≤ k → ((nat_lt 0 k && nat_le k p.count) && x) ≡ false
none_above p k x few big = of (nat_lt 0 k) (nat_le k p.count) (grind (arith, nat_tests))
  where
    of : (a b : Bool) → b ≡ false → ((a && b) && x) ≡ false
    of true b e = of_second b e
      where
        of_second : (b : Bool) → b ≡ false → (b && x) ≡ false
        of_second false e = refl
        of_second true e = absurd (cc)
    of false b e = refl

-- the row of the request, with the lock's bit set
pub row_apart : (p : Protocol) (q h r : ℕ) → is_mode p h ≡ true → h < 16 → IsRow p q r → IsRow (changed p (Compatible q h false)) q (bit_or r (1 * 2 ^ h % 2 ^ 16))
row_apart p q h r mode small is k = by (same_or_other k h)
  where
    by : (k ≡ h) ⊎ (k ≢ h) → bit_at (bit_or r (1 * 2 ^ h % 2 ^ 16)) k ≡ cond (conflicts (changed p (Compatible q h false)) q k) 1 0
    by (inl s) = subst (λ (x : ℕ). bit_at (bit_or r (1 * 2 ^ h % 2 ^ 16)) x ≡ cond (conflicts (changed p (Compatible q h false)) q x) 1 0) (sym s)
        (bit_at_set_same w16 r h small ∙ sym (set (nat_lt 0 h && nat_le h p.count) (q == q) (h == h) (p.ok q h) mode (same_test q) (same_test h)))
    by (inr o) = bit_at_set_other w16 r h small k o ∙ is k ∙ as_it_is (nat_lt 0 k && nat_le k p.count) (q == q) (k == h) false (p.ok q k) (other_test k h o)

low_or_high : (k : ℕ) → (k < 16) ⊎ (16 ≤ k)
low_or_high k = grind (arith, nat_tests)

-- bit k is that of a number above the modes
no_bit : (p : Protocol) (q k r x : ℕ) → p.count ≤ 15 → 16 ≤ k → IsRow p q r → bit_at (bit_and r x) k ≡ 0
no_bit p q k r x few high is =
    let none : bit_at r k ≡ 0 = is k ∙ ap (λ (b : Bool). cond b 1 0) (none_above p k (not (p.ok q k)) few high) in
    omega (arith, bit_at_and r x k, none)

-- the row of the request, with the lock's bit cleared
pub row_beside : (p : Protocol) (q h r : ℕ) → h < 16 → p.count ≤ 15 → IsRow p q r → IsRow (changed p (Compatible q h true)) q (bit_and r (bit_not w16 (1 * 2 ^ h % 2 ^ 16)))
row_beside p q h r small few is k = by (low_or_high k) (same_or_other k h)
  where
    row : ℕ
    row = bit_and r (bit_not w16 (1 * 2 ^ h % 2 ^ 16))

    by : (k < 16) ⊎ (16 ≤ k) → (k ≡ h) ⊎ (k ≢ h) → bit_at row k ≡ cond (conflicts (changed p (Compatible q h true)) q k) 1 0
    by near (inl s) = subst (λ (x : ℕ). bit_at row x ≡ cond (conflicts (changed p (Compatible q h true)) q x) 1 0) (sym s)
        (bit_at_clear_same w16 r h small ∙ sym (unset (nat_lt 0 h && nat_le h p.count) (q == q) (h == h) (p.ok q h) (same_test q) (same_test h)))
    by (inl low) (inr o) = bit_at_clear_other w16 r h small k low o ∙ is k ∙ as_it_is (nat_lt 0 k && nat_le k p.count) (q == q) (k == h) true (p.ok q k) (other_test k h o)
    by (inr high) (inr o) = no_bit p q k r _ few high is
        ∙ sym (ap (λ (b : Bool). cond b 1 0) (none_above p k (not ((changed p (Compatible q h true)).ok q k)) few high))
