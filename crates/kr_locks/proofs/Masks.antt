-- The mask of holders' modes.
use Rattle.std.specs.Prelude.{◌≡◌, ℕ, ◌<◌, ◌≤◌, ◌+◌, ◌*◌, ◌%◌, ◌^◌, max, length, refl, slice_index_or}
use Rattle.std.specs.Int.{bit_at, w16}
use Rattle.std.specs.Int.RustNames.{bit_or, bit_and}
use Rattle.std.proofs.Common.{arith, ap, sym, ◌∙◌, ◌⊎◌, inl, inr, get_or}
use Rattle.std.proofs.lemmas.Nat.Bits.{bit_at_or, bit_at_and, bit_at-lt, bit_at_set_same, bit_at-zero}
use Rattle.std.proofs.Common.{[], ◌∷◌, Bool, true, false, cond, filter, zero, suc}
use Rattle.std.specs.Prelude.{not, ◌&&◌, ◌==◌, nat_le, nat_lt, min}
use Rattle.std.proofs.lemmas.Bool.Decides.{nat_tests}
use Rattle.kr_model.specs.Protocol.{Protocol, IsLawful}
use Rattle.kr_protocol.specs.Rows.{conflicts, IsRow}
use Rattle.kr_locks.specs.Buckets.{Holders, HasModes, holder_conflicts}

larger_stays : (a b : ℕ) → a ≡ 1 → b < 2 → max a b ≡ 1
larger_stays a b e lt = omega arith

-- a bit that is set stays so
pub still_set : (mask x i : ℕ) → bit_at mask i ≡ 1 → bit_at (bit_or mask x) i ≡ 1
still_set mask x i e = bit_at_or mask x i ∙ larger_stays (bit_at mask i) (bit_at x i) e (bit_at-lt x i)

-- the mask has the modes of the first holders
abbrev pub HasFirst : ℕ → Holders → ℕ → Type 0
HasFirst mask hs n = (i : ℕ) (d : ℕ × ℕ) → i < n → i < length hs → (get_or hs i d).1 < 16 → bit_at mask (get_or hs i d).1 ≡ 1

before_or_at : (i n : ℕ) → i < n + 1 → (i < n) ⊎ (i ≡ n)
before_or_at i n lt = grind arith

-- one holder more, with its bit
pub one_more : (mask : ℕ) (hs : Holders) (n : ℕ) (h : ℕ × ℕ) → HasFirst mask hs n → ((d : ℕ × ℕ) → get_or hs n d ≡ h) → h.1 < 16 → HasFirst (bit_or mask (1 * 2 ^ h.1 % 2 ^ 16)) hs (n + 1)
one_more mask hs n h first here small i d lt within low = by (before_or_at i n lt)
  where
    by : (i < n) ⊎ (i ≡ n) → bit_at (bit_or mask (1 * 2 ^ h.1 % 2 ^ 16)) (get_or hs i d).1 ≡ 1
    by (inl before) = still_set mask (1 * 2 ^ h.1 % 2 ^ 16) (get_or hs i d).1 (first i d before within low)
    by (inr at) =
        let same : (get_or hs i d).1 ≡ h.1 = ap (λ (j : ℕ). (get_or hs j d).1) at ∙ ap (λ (x : ℕ × ℕ). x.1) (here d) in
        ap (λ m. bit_at (bit_or mask (1 * 2 ^ h.1 % 2 ^ 16)) m) same ∙ bit_at_set_same w16 mask h.1 small

-- one holder more, whose mode has no bit
pub one_past : (mask : ℕ) (hs : Holders) (n : ℕ) (h : ℕ × ℕ) → HasFirst mask hs n → ((d : ℕ × ℕ) → get_or hs n d ≡ h) → 16 ≤ h.1 → HasFirst mask hs (n + 1)
one_past mask hs n h first here large i d lt within low = by (before_or_at i n lt)
  where
    by : (i < n) ⊎ (i ≡ n) → bit_at mask (get_or hs i d).1 ≡ 1
    by (inl before) = first i d before within low
    by (inr at) =
        let same : (get_or hs i d).1 ≡ h.1 = ap (λ (j : ℕ). (get_or hs j d).1) at ∙ ap (λ (x : ℕ × ℕ). x.1) (here d) in
        absurd (omega (arith, same, low, large))

-- Where the mask shares no bit with the row --

no_share : (a b : ℕ) → min a b ≡ 0 → b ≡ 1 → a ≡ 0
no_share a b e f = omega (arith, e, f)

no_conflict : (b : Bool) → ◌≡◌ {A = ℕ} (cond b 1 0) 0 → b ≡ false
no_conflict true e = absurd (omega (arith, e))
no_conflict false e = refl

stands : (p : Protocol) (t m : ℕ) (h : ℕ × ℕ) → IsLawful p → m ≤ p.count → h.1 ≤ p.count → conflicts p m h.1 ≡ false → holder_conflicts p t m h ≡ false
stands p t m (u, zero) laws few le e = by (not (u == t)) (p.ok m 0) (laws.ok-none_held m few)
  where
    by : (a b : Bool) → b ≡ true → (a && not b) ≡ false
    by true b f = ap not f
    by false b f = refl
stands p t m (u, suc x) laws few le e = by (not (u == t)) (nat_lt 0 (suc x)) (nat_le (suc x) p.count) (p.ok m (suc x)) some within e
  where
    some : nat_lt 0 (suc x) ≡ true
    some = grind (arith, nat_tests)

    within : nat_le (suc x) p.count ≡ true
    within = grind (arith, nat_tests, le)

    by : (a b c d : Bool) → b ≡ true → c ≡ true → ((b && c) && not d) ≡ false → (a && not d) ≡ false
    by true true true d f g k = k
    by false b c d f g k = refl
    by true false c d f g k = absurd (cc)
    by true true false d f g k = absurd (cc)

-- then no holder conflicts
pub free_by_mask : (p : Protocol) (t m mask row : ℕ) (hs : Holders) → IsLawful p → m ≤ p.count → IsRow p m row → HasModes mask hs → ((i : ℕ) (d : ℕ × ℕ) → i < length hs → (slice_index_or hs i d).1 ≤ p.count) → bit_and row mask ≡ 0 → filter (holder_conflicts p t m) hs ≡ []
free_by_mask p t m mask row [] laws few is has within none = refl
free_by_mask p t m mask row (h ∷ hs) laws few is has within none =
    ap (λ b. cond b (h ∷ filter (holder_conflicts p t m) hs) (filter (holder_conflicts p t m) hs)) (stands p t m h laws few le free)
    ∙ free_by_mask p t m mask row hs laws few is (λ i d lt low. has (suc i) d (omega arith) low) (λ i d lt. within (suc i) d (omega arith)) none
  where
    le : h.1 ≤ p.count
    le = within 0 h (omega arith)

    bit : bit_at row h.1 ≡ 0
    bit = no_share (bit_at row h.1) (bit_at mask h.1) (sym (bit_at_and row mask h.1) ∙ ap (λ (x : ℕ). bit_at x h.1) none ∙ bit_at-zero h.1) (has 0 h (omega arith) (let f = laws.few in omega arith))

    free : conflicts p m h.1 ≡ false
    free = no_conflict (conflicts p m h.1) (sym (is h.1) ∙ bit)

-- One that conflicts --

conflicts_first : (f : ℕ × ℕ → Bool) (h : ℕ × ℕ) (hs : Holders) (b : Bool) → b ≡ true → cond b (h ∷ filter f hs) (filter f hs) ≡ [] → ⊥
conflicts_first f h hs true e none = cc
conflicts_first f h hs false e none = absurd (cc)

conflicts_later : (f : ℕ × ℕ → Bool) (h : ℕ × ℕ) (hs : Holders) (b : Bool) → (filter f hs ≡ [] → ⊥) → cond b (h ∷ filter f hs) (filter f hs) ≡ [] → ⊥
conflicts_later f h hs true some none = cc
conflicts_later f h hs false some none = some none

pub some_conflicts : (f : ℕ × ℕ → Bool) (hs : Holders) (i : ℕ) (d : ℕ × ℕ) → i < length hs → f (get_or hs i d) ≡ true → filter f hs ≡ [] → ⊥
some_conflicts f [] i d lt e none = omega arith
some_conflicts f (h ∷ hs) zero d lt e none = conflicts_first f h hs (f h) e none
some_conflicts f (h ∷ hs) (suc i) d lt e none = conflicts_later f h hs (f h) (some_conflicts f hs i d (omega arith) e) none
