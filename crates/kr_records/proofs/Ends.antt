-- Kept ends.
use Rattle.std.proofs.Common.{◌≡◌, ℕ, zero, suc, ◌+◌, ◌<◌, Bool, true, false, cond, List, [], ◌∷◌, ◌++◌, length, Some, is_some, refl, ap, sym, ◌∙◌, arith}
use Rattle.std.specs.Prelude.{slice_set}
use Rattle.kr_records.specs.declared.numbers.Number.{Number}
use Rattle.kr_records.specs.Numbers.{begun_by, ends_kept, number_at}

-- One kept end more or less.
pub kept_less : (ns : List Number) (i : ℕ) (n : Number) → i < length ns → is_some (number_at ns i).end ≡ true → is_some n.end ≡ false → ends_kept ns ≡ ends_kept (slice_set ns i n) + 1
kept_less [] i n within here none = absurd (omega arith)
kept_less (x ∷ xs) zero n within here none = ap (λ (b : Bool). cond b (suc (ends_kept xs)) (ends_kept xs)) here ∙ sym (ap (λ (b : Bool). cond b (suc (ends_kept xs)) (ends_kept xs) + 1) none ∙ omega arith)
kept_less (x ∷ xs) (suc i) n within here none = step (is_some x.end) (ends_kept xs) (ends_kept (slice_set xs i n)) (kept_less xs i n (omega arith) here none)
  where
    step : (b : Bool) (m k : ℕ) → m ≡ k + 1 → cond b (suc m) m ≡ cond b (suc k) k + 1
    step true m k e = omega (arith, e)
    step false m k e = e

pub kept_more : (ns : List Number) (i : ℕ) (n : Number) → i < length ns → is_some (number_at ns i).end ≡ false → is_some n.end ≡ true → ends_kept (slice_set ns i n) ≡ ends_kept ns + 1
kept_more [] i n within here some = absurd (omega arith)
kept_more (x ∷ xs) zero n within here some = ap (λ (b : Bool). cond b (suc (ends_kept xs)) (ends_kept xs)) some ∙ sym (ap (λ (b : Bool). cond b (suc (ends_kept xs)) (ends_kept xs) + 1) here ∙ omega arith)
kept_more (x ∷ xs) (suc i) n within here some = step (is_some x.end) (ends_kept xs) (ends_kept (slice_set xs i n)) (kept_more xs i n (omega arith) here some)
  where
    step : (b : Bool) (m k : ℕ) → k ≡ m + 1 → cond b (suc k) k ≡ cond b (suc m) m + 1
    step true m k e = omega (arith, e)
    step false m k e = e

-- The numbers and seats stay where an end is taken or put back.
pub begun_stays : (ns : List Number) (i : ℕ) (n : Number) → i < length ns → n.txn ≡ (number_at ns i).txn → n.seat ≡ (number_at ns i).seat → begun_by (slice_set ns i n) ≡ begun_by ns
begun_stays [] i n within t s = refl
begun_stays (x ∷ xs) zero n within t s = λ j. (t j, s j) ∷ begun_by xs
begun_stays (x ∷ xs) (suc i) n within t s = ap (λ l. (x.txn, x.seat) ∷ l) (begun_stays xs i n (omega arith) t s)

-- One number more.
pub begun_more : (ns : List Number) (n : Number) → begun_by (ns ++ n ∷ []) ≡ begun_by ns ++ (n.txn, n.seat) ∷ []
begun_more [] n = refl
begun_more (x ∷ xs) n = ap (λ l. (x.txn, x.seat) ∷ l) (begun_more xs n)

pub ends_more : (ns : List Number) (t k : ℕ) (e : _) → ends_kept (ns ++ record { txn = t; seat = k; end = Some e } ∷ []) ≡ ends_kept ns + 1
ends_more [] t k e = refl
ends_more (x ∷ xs) t k e = step (is_some x.end) (ends_kept xs) (ends_kept (xs ++ record { txn = t; seat = k; end = Some e } ∷ [])) (ends_more xs t k e)
  where
    step : (b : Bool) (m k : ℕ) → k ≡ m + 1 → cond b (suc k) k ≡ cond b (suc m) m + 1
    step true m k e = omega (arith, e)
    step false m k e = e

-- Kept ends stay in number where one is given back.
pub kept_stay : (ns : List Number) (i : ℕ) (n : Number) → i < length ns → is_some n.end ≡ is_some (number_at ns i).end → ends_kept (slice_set ns i n) ≡ ends_kept ns
kept_stay [] i n within same = absurd (omega arith)
kept_stay (x ∷ xs) zero n within same = ap (λ (b : Bool). cond b (suc (ends_kept xs)) (ends_kept xs)) same
kept_stay (x ∷ xs) (suc i) n within same = ap (λ (k : ℕ). cond (is_some x.end) (suc k) k) (kept_stay xs i n (omega arith) same)
