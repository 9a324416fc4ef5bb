-- A transaction that inserts keys one below another has on the lowest no mode that it hasn't had after at most as many inserts as there are modes.
use Rattle.std.proofs.Common.{◌≡◌, ℕ, zero, suc, ◌+◌, ◌-◌, ◌≤◌, ◌<◌, ◌⊎◌, inl, inr, refl, ◌∙◌, ap, arith, nat_lt, cond, below_more}
use Rattle.kr_model.specs.Protocol.{Protocol, IsLawful}
use Rattle.kr_model.specs.declared.Row.TheVariants.{Insert}
use Rattle.kr_model.specs.declared.Side.TheVariants.{Current}
use Rattle.kr_model.specs.Covers.{mode_after}
use Rattle.kr_theorem.specs.Fixed.{lowest}
use Rattle.kr_theorem.proofs.Held.{lowest_within}

-- Two of the numbers g 0 to g n are equal.
record Repeats (g : ℕ → ℕ) (n : ℕ) : Type 0 where
  i : ℕ
  j : ℕ
  before : i < j
  within : j ≤ n
  equal : g i ≡ g j

-- One of the first n has the value v.
record Takes (g : ℕ → ℕ) (n v : ℕ) : Type 0 where
  i : ℕ
  within : i < n
  equal : g i ≡ v

-- One has it, or none.
takes : (g : ℕ → ℕ) (n v : ℕ) → Takes g n v ⊎ ((i : ℕ) → i < n → g i ≡ v → ⊥)
takes g zero v = inr (λ i lt e. absurd (omega arith))
takes g (suc n) v = by (takes g n v) (compare (g n) v)
  where
    compare : (a b : ℕ) → (a ≡ b) ⊎ (a ≡ b → ⊥)
    compare a b = grind arith

    by : Takes g n v ⊎ ((i : ℕ) → i < n → g i ≡ v → ⊥) → (g n ≡ v) ⊎ (g n ≡ v → ⊥) → Takes g (suc n) v ⊎ ((i : ℕ) → i < suc n → g i ≡ v → ⊥)
    by (inl t) last = let w = t.within in inl (record { i = t.i; within = omega arith; equal = t.equal })
    by (inr none) (inl e) = inl (record { i = n; within = omega arith; equal = e })
    by (inr none) (inr not_last) = inr (λ i lt. let le : i < n + 1 = omega arith in below_more (λ k. g k ≡ v → ⊥) n none not_last i le)

-- The numbers but v, moved together.
abbrev without : ℕ → ℕ → ℕ
without v a = cond (nat_lt a v) a (a - 1)

without_within : (v a n : ℕ) → v ≤ suc n → a ≤ suc n → (a ≡ v → ⊥) → without v a ≤ n
without_within v a n vv aa other = grind arith

without_equal : (v a b : ℕ) → (a ≡ v → ⊥) → (b ≡ v → ⊥) → without v a ≡ without v b → a ≡ b
without_equal v a b aa bb e = grind arith

-- Of n + 2 numbers that are at most n two are equal.
repeats : (n : ℕ) (g : ℕ → ℕ) → ((i : ℕ) → i ≤ suc n → g i ≤ n) → Repeats g (suc n)
repeats zero g few = let a = few 0 (omega arith) in let b = few 1 (omega arith) in record { i = 0; j = 1; before = omega arith; within = omega arith; equal = omega arith }
repeats (suc n) g few = by (takes g (suc (suc n)) (g (suc (suc n)))) (λ other small. repeats n other small)
  where
    by : Takes g (suc (suc n)) (g (suc (suc n))) ⊎ ((i : ℕ) → i < suc (suc n) → g i ≡ g (suc (suc n)) → ⊥) → ((h : ℕ → ℕ) → ((i : ℕ) → i ≤ suc n → h i ≤ n) → Repeats h (suc n)) → Repeats g (suc (suc n))
    by (inl t) fewer = record { i = t.i; j = suc (suc n); before = t.within; within = omega arith; equal = t.equal }
    by (inr none) fewer =
        let v = g (suc (suc n)) in
        let at_last = few (suc (suc n)) (omega arith) in
        let r = fewer (λ i. without v (g i)) (λ i le. without_within v (g i) n at_last (few i (omega arith)) (none i (omega arith))) in
        let lt = r.before in
        let le = r.within in
        record { i = r.i; j = r.j; before = lt; within = omega arith; equal = without_equal v (g r.i) (g r.j) (none r.i (omega arith)) (none r.j (omega arith)) r.equal }

-- The same mode after at most as many inserts as there are modes.
pub record Within (p : Protocol) (m n : ℕ) : Type 0 where
  pub fewer : ℕ
  pub within : fewer ≤ p.count
  pub equal : lowest p m fewer ≡ lowest p m n

same_after : (p : Protocol) (m d i j : ℕ) → lowest p m i ≡ lowest p m j → lowest p m (d + i) ≡ lowest p m (d + j)
same_after p m zero i j e = let of_i : 0 + i ≡ i = omega arith in let of_j : 0 + j ≡ j = omega arith in rw (of_i, of_j) e
same_after p m (suc d) i j e =
    let of_i : suc d + i ≡ suc (d + i) = omega arith in
    let of_j : suc d + j ≡ suc (d + j) = omega arith in
    rw (of_i, of_j) (ap (λ o. mode_after p 0 (p.ask Insert Current o)) (same_after p m d i j e))

pub enough : (p : Protocol) → IsLawful p → (m n : ℕ) → m ≤ p.count → Within p m n
enough p laws m n mm = by n n (omega arith)
  where
    two : Repeats (lowest p m) (suc p.count)
    two = repeats p.count (lowest p m) (λ i le. lowest_within p laws m i mm)

    few_or_many : (k : ℕ) → (k ≤ p.count) ⊎ (suc p.count ≤ k)
    few_or_many k = grind arith

    -- without the inserts between the two
    shorter : (k : ℕ) → suc p.count ≤ k → Within p m (k - two.j + two.i) → Within p m k
    shorter k many w =
        let le = two.within in
        let whole : k - two.j + two.j ≡ k = omega arith in
        record { fewer = w.fewer; within = w.within; equal = w.equal ∙ same_after p m (k - two.j) two.i two.j two.equal ∙ ap (lowest p m) whole }

    by : (fuel k : ℕ) → k ≤ fuel → Within p m k
    by zero k le = record { fewer = k; within = omega arith; equal = refl }
    by (suc fuel) k le = split (few_or_many k) (λ j jj. by fuel j jj)
      where
        split : (k ≤ p.count) ⊎ (suc p.count ≤ k) → ((j : ℕ) → j ≤ fuel → Within p m j) → Within p m k
        split (inl few) below = record { fewer = k; within = few; equal = refl }
        split (inr many) below = let lt = two.before in let jj = two.within in shorter k many (below (k - two.j + two.i) (omega arith))
