-- Each lock state and each pair has a number of its own.
use Rattle.std.proofs.Common.{ℕ, Bool, true, false, ◌≡◌, ◌≤◌, ◌<◌, ◌+◌, ◌*◌, ◌/◌, ◌%◌, ◌==◌, ◌∙◌, cond, refl, ap, arith}
use Rattle.kr_ghost.specs.Safe.{KeyUse, Free, Read, Inserted, Updated, Deleted, Several, Hold}
use Rattle.kr_ghost_decide.specs.Holds.{Fact, key_number, key_at, hold_number, hold_at, place, fact_at}

-- A lock state of the numbers of its parts.
abbrev made : ℕ → ℕ → ℕ → ℕ → Hold
made m k g r = record { mode = m; key = key_at k; gap = g == 1; rolling = r == 1 }

key_below : (k : KeyUse) → key_number k ≤ 5
key_below Free = omega arith
key_below Read = omega arith
key_below Inserted = omega arith
key_below Updated = omega arith
key_below Deleted = omega arith
key_below Several = omega arith

twice_below : (b : Bool) → cond b 2 0 ≡ cond b 1 0 * 2
twice_below true = refl
twice_below false = refl

one_below : (b : Bool) → cond b 1 0 ≤ 1
one_below true = omega arith
one_below false = omega arith

key_back : (k : KeyUse) → key_at (key_number k) ≡ k
key_back Free = refl
key_back Read = refl
key_back Inserted = refl
key_back Updated = refl
key_back Deleted = refl
key_back Several = refl

bit_back : (b : Bool) → (cond b 1 0 == 1) ≡ b
bit_back true = refl
bit_back false = refl

made_back : (x : Hold) → made x.mode (key_number x.key) (cond x.gap 1 0) (cond x.rolling 1 0) ≡ x
made_back x = ap (λ k. put k (cond x.gap 1 0 == 1) (cond x.rolling 1 0 == 1)) (key_back x.key) ∙ ap (λ g. put x.key g (cond x.rolling 1 0 == 1)) (bit_back x.gap) ∙ ap (λ r. put x.key x.gap r) (bit_back x.rolling)
  where
    put : KeyUse → Bool → Bool → Hold
    put k g r = record { mode = x.mode; key = k; gap = g; rolling = r }

digits : (n m k g r : ℕ) → n ≡ m * 24 + k * 4 + g * 2 + r → k ≤ 5 → g ≤ 1 → r ≤ 1 → hold_at n ≡ made m k g r
digits n m k g r is kb gb rb =
    let a : n / 24 ≡ m = omega arith in
    let b : n / 4 % 6 ≡ k = omega arith in
    let c : n / 2 % 2 ≡ g = omega arith in
    let d : n % 2 ≡ r = omega arith in
    ap (λ x. made x (n / 4 % 6) (n / 2 % 2) (n % 2)) a ∙ ap (λ x. made m x (n / 2 % 2) (n % 2)) b ∙ ap (λ x. made m k x (n % 2)) c ∙ ap (λ x. made m k g x) d

-- The lock state with the number of x is x.
pub hold_back : (x : Hold) → hold_at (hold_number x) ≡ x
hold_back x =
    let twice = twice_below x.gap in
    digits (hold_number x) x.mode (key_number x.key) (cond x.gap 1 0) (cond x.rolling 1 0) (omega arith) (key_below x.key) (one_below x.gap) (one_below x.rolling) ∙ made_back x

-- Its number is below that of the next mode's.
pub number_below : (x : Hold) (n : ℕ) → x.mode ≤ n → hold_number x < (n + 1) * 24
number_below x n few =
    let a = key_below x.key in let t = twice_below x.gap in let b = one_below x.gap in let c = one_below x.rolling in
    omega arith

pub place_below : (f : Fact) → f.own.mode ≤ 15 → f.other.mode ≤ 15 → place f < 294912
place_below f a b =
    let x : hold_number f.own < 384 = number_below f.own 15 a in
    let y : hold_number f.other < 384 = number_below f.other 15 b in
    let c = one_below f.present in
    omega arith

-- The pair with the number of f is f.
pub fact_back : (f : Fact) → f.other.mode ≤ 15 → fact_at (place f) ≡ f
fact_back f few =
    ap (λ n. put (n == 1) (hold_at (place f / 768)) (hold_at (place f / 2 % 384))) last ∙ ap (λ n. put (cond f.present 1 0 == 1) (hold_at n) (hold_at (place f / 2 % 384))) own
    ∙ ap (λ n. put (cond f.present 1 0 == 1) (hold_at (hold_number f.own)) (hold_at n)) other
    ∙ ap (λ b. put b (hold_at (hold_number f.own)) (hold_at (hold_number f.other))) (bit_back f.present)
    ∙ ap (λ x. put f.present x (hold_at (hold_number f.other))) (hold_back f.own) ∙ ap (λ x. put f.present f.own x) (hold_back f.other)
  where
    put : Bool → Hold → Hold → Fact
    put b x y = record { present = b; own = x; other = y }

    below : hold_number f.other < 384
    below = number_below f.other 15 few

    parts : (a b c : ℕ) → b < 384 → c ≤ 1 → let n = (a * 384 + b) * 2 + c in (n % 2 ≡ c) × (n / 768 ≡ a) × (n / 2 % 384 ≡ b)
    parts a b c bb cb = (omega arith, omega arith, omega arith)

    three : (place f % 2 ≡ cond f.present 1 0) × (place f / 768 ≡ hold_number f.own) × (place f / 2 % 384 ≡ hold_number f.other)
    three = parts (hold_number f.own) (hold_number f.other) (cond f.present 1 0) below (one_below f.present)

    last : place f % 2 ≡ cond f.present 1 0
    last = three.0

    own : place f / 768 ≡ hold_number f.own
    own = three.1

    other : place f / 2 % 384 ≡ hold_number f.other
    other = three.2
