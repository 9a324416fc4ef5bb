-- Tables of rows, against the definitions.
use Rattle.std.specs.Prelude.{◌≡◌, ℕ, ◌<◌, ◌≤◌, Bool, true, false, not, ◌&&◌, cond, nat_le, nat_lt, refl, ◌^◌}
use Rattle.std.specs.Int.{bit_at}
use Rattle.std.proofs.Common.{arith, ap, sym, ◌∙◌, ◌⊎◌, inl, inr}
use Rattle.std.proofs.lemmas.Bool.Decides.{nat_tests}
use Rattle.std.proofs.lemmas.Nat.Bits.{bit_at_above, bit_at-zero}
use Rattle.kr_model.specs.Protocol.{Protocol}
use Rattle.kr_protocol.specs.Rows.{conflicts, IsRow}

below_or_not : (a b : ℕ) → (a < b) ⊎ (b ≤ a)
below_or_not a b = grind arith

past_count : (h c : ℕ) → c < h → nat_le h c ≡ false
past_count h c lt = grind (arith, nat_tests)

none_past : (x b : Bool) (c : Bool) → b ≡ false → ◌≡◌ {A = ℕ} (cond ((x && b) && c) 1 0) 0
none_past true b c e = ap (λ (t : Bool). cond (t && c) 1 0) e
none_past false b c e = refl

-- a number below 2 ^ n that is right below n, where n is past the count
pub row_from : (p : Protocol) (q r n : ℕ) → p.count < n → r < 2 ^ n → ((h : ℕ) → h < n → bit_at r h ≡ cond (conflicts p q h) 1 0) → IsRow p q r
row_from p q r n few small is h = by (below_or_not h n)
  where
    by : (h < n) ⊎ (n ≤ h) → bit_at r h ≡ cond (conflicts p q h) 1 0
    by (inl lt) = is h lt
    by (inr le) = bit_at_above r n h small le ∙ sym (none_past (nat_lt 0 h) (nat_le h p.count) (not (p.ok q h)) (past_count h p.count (omega (arith, few, le))))

no_bit : (a b : Bool) → b ≡ true → ◌≡◌ {A = ℕ} (cond (a && not b) 1 0) 0
no_bit true true e = refl
no_bit false b e = refl
no_bit true false e = absurd (cc)

-- where every mode is compatible with a request, its row is 0
pub no_conflicts : (p : Protocol) (q : ℕ) → ((h : ℕ) → p.ok q h ≡ true) → IsRow p q 0
no_conflicts p q free h = bit_at-zero h ∙ sym (no_bit (nat_lt 0 h && nat_le h p.count) (p.ok q h) (free h))
