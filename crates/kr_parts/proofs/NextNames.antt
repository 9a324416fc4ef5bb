-- The next name of a map from a key on, and the keys before it, which have no value.
use Rattle.std.specs.Prelude.{T, refl}
use Rattle.std.specs.Ordering.{nat_cmp, eq_by_cmp}
use Rattle.std.specs.FinMap.{is_sorted}
use Rattle.std.specs.declared.cmp.Ordering.TheVariants.{Less}
use Rattle.std.proofs.Common.{◌≡◌, ℕ, Bool, nat_le, is_some, ◌<◌, ◌≤◌, ◌⊎◌, inl, inr, true, false, cond, [], ◌∷◌, Some, None, sym, ◌∙◌, ap, arith}
use Rattle.std.proofs.lemmas.Bool.Decides.{nat_tests}
use Rattle.kr_model.specs.declared.Name.TheVariants.{Key, End}
use Rattle.kr_model.specs.Map.{Map, get, at}
use Rattle.kr_model.proofs.MapLaws.{keys_apart, key_tie}
use Rattle.kr_model.proofs.Trees.{first, second, not_found}

-- one of two orders
pub two : (a b : ℕ) → (a < b) ⊎ (b ≤ a)
two a b = grind arith

-- a key before c
pub past : (p : ℕ × ℕ) (m : Map) (c : ℕ) → p.0 < c → at (p ∷ m) c ≡ at m c
past p m c lt = grind (arith, nat_tests)

-- a key from c on
pub here : (p : ℕ × ℕ) (m : Map) (c : ℕ) → c ≤ p.0 → at (p ∷ m) c ≡ Key p.0
here p m c le = grind (arith, nat_tests)

-- another key than the first
pub other : (p : ℕ × ℕ) (m : Map) (q : ℕ) → (q ≡ p.0 → ⊥) → get (p ∷ m) q ≡ get m q
other p m q differs = ap (λ b. cond b (Some p.1) (get m q)) (keys_apart q p.0 differs)

-- the first key
pub own : (p : ℕ × ℕ) (m : Map) → get (p ∷ m) p.0 ≡ Some p.1
own p m = ap (λ b. cond b (Some p.1) (get m p.0)) (key_tie p.0)

-- keys without values are stepped over
pub skip : (m : Map) (c e : ℕ) → c ≤ e → ((q : ℕ) → c ≤ q → q < e → get m q ≡ None) → at m c ≡ at m e
skip [] c e le absent = refl
skip (p ∷ m) c e le absent = elim (two p.0 c) [
  | inl lt ↦ past p m c lt ∙ skip m c e le (λ q a b. sym (other p m q (λ is. absurd (omega arith))) ∙ absent q a b) ∙ sym (past p m e (omega arith))
  | inr from ↦ elim (two p.0 e) [
    | inl lt ↦ absurd (cc (own p m, absent p.0 from lt))
    | inr far ↦ here p m c from ∙ sym (here p m e far)
  ]
]

-- where there is no name from c on, no key from there on has a value
pub none_from : (m : Map) (c : ℕ) → at m c ≡ End → (q : ℕ) → c ≤ q → get m q ≡ None
none_from [] c is q le = refl
none_from (p ∷ m) c is q le = elim (two p.0 c) [
  | inl lt ↦ other p m q (λ e. absurd (omega arith)) ∙ none_from m c (sym (past p m c lt) ∙ is) q le
  | inr from ↦ absurd (cc (here p m c from, is))
]

-- where no key from c on has a value, there is no name
pub end_from : (m : Map) (c : ℕ) → ((q : ℕ) → c ≤ q → get m q ≡ None) → at m c ≡ End
end_from [] c absent = refl
end_from (p ∷ m) c absent = elim (two p.0 c) [
  | inl lt ↦ past p m c lt ∙ end_from m c (λ q le. sym (other p m q (λ e. absurd (omega arith))) ∙ absent q le)
  | inr from ↦ absurd (cc (own p m, absent p.0 from))
]

-- no key below the next name has a value
pub none_below : (m : Map) (c k : ℕ) → T (is_sorted nat_cmp m) → at m c ≡ Key k → (q : ℕ) → c ≤ q → q < k → get m q ≡ None
none_below [] c k sorted is q le lt = absurd (cc is)
none_below (p ∷ m) c k sorted is q le lt = elim (two p.0 c) [
  | inl before ↦ other p m q (λ e. absurd (omega arith)) ∙ none_below m c k (second _ _ sorted) (sym (past p m c before) ∙ is) q le lt
  | inr from ↦
      let same : p.0 ≡ k = cc (here p m c from, is) in
      other p m q (λ e. absurd (omega arith)) ∙ not_found q p.0 m (less q p.0 (omega arith)) (first _ _ sorted)
]
  where
    less : (a b : ℕ) → a < b → nat_cmp a b ≡ Less
    less a b h = grind (arith, nat_tests)

-- the least key from c on is present
pub least_present : (m : Map) (c k : ℕ) → at m c ≡ Key k → is_some (get m k) ≡ true
least_present [] c k is = absurd (cc)
least_present (e ∷ m) c k is = by (nat_le c e.0) refl is (eq_by_cmp nat_cmp k e.0) refl (least_present m c k)
  where
    by : (b : Bool) → nat_le c e.0 ≡ b → cond b (Key e.0) (at m c) ≡ Key k → (t : Bool) → eq_by_cmp nat_cmp k e.0 ≡ t → (at m c ≡ Key k → is_some (get m k) ≡ true) → is_some (cond t (Some e.1) (get m k)) ≡ true
    by true l is true q more = refl
    by true l is false q more = let same : e.0 ≡ k = cc in absurd (cc (key_tie k, q, ap (λ x. eq_by_cmp nat_cmp k x) same))
    by false l is true q more = refl
    by false l is false q more = more is
