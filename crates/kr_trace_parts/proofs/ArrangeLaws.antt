-- Orders of committed transactions.
use Rattle.std.specs.Prelude.{◌≡◌, ℕ, zero, suc, ◌==◌, ◌&&◌, ◌||◌, not, Bool, true, false, cond, List, [], ◌∷◌, ◌++◌, Some, length, map, refl, slice_get}
use Rattle.std.specs.List.{remove}
use Rattle.std.proofs.Common.{sym, ◌∙◌, ap, ap₂, subst, arith}
use Rattle.kr_trace_lines.specs.Parts.{are_distinct, are_in, has, is_order_of}
use Rattle.kr_trace_parts.specs.Committed.{Committed}
use Rattle.kr_trace_parts.specs.Orders.{AreArranged}
use Rattle.kr_trace_parts.specs.Printed.{IsOrder, in_order, of_txn}
use Rattle.kr_trace_parts.proofs.Tests.{and_true, both_true, either_false, not_true, or_right, or_swap, same_number, same_self, same_test, turned}

-- Numbers in a list --

has_here : (us : List ℕ) (i t : ℕ) → slice_get us i ≡ Some t → has us t ≡ true
has_here [] i t h = absurd (cc)
has_here (u ∷ us) zero t h = let own : u ≡ t = cc in ap (λ b. b || has us t) (ap (λ (v : ℕ). v == t) own ∙ same_self t)
has_here (u ∷ us) (suc i) t h = or_right (u == t) (has us t) (has_here us i t h)

-- what a list has without one of its numbers
has_removed : (us : List ℕ) (i t v : ℕ) → slice_get us i ≡ Some t → has us v ≡ ((t == v) || has (remove us i) v)
has_removed [] i t v h = absurd (cc)
has_removed (u ∷ us) zero t v h = let own : u ≡ t = cc in ap (λ (x : ℕ). (x == v) || has us v) own
has_removed (u ∷ us) (suc i) t v h = ap (λ b. (u == v) || b) (has_removed us i t v h) ∙ or_swap (u == v) (t == v) (has (remove us i) v)

removed_among : (us : List ℕ) (i t v : ℕ) → slice_get us i ≡ Some t → has (remove us i) v ≡ true → has us v ≡ true
removed_among us i t v h k = has_removed us i t v h ∙ or_right (t == v) (has (remove us i) v) k

removed_length : (us : List ℕ) (i t : ℕ) → slice_get us i ≡ Some t → suc (length (remove us i)) ≡ length us
removed_length [] i t h = absurd (cc)
removed_length (u ∷ us) zero t h = refl
removed_length (u ∷ us) (suc i) t h = ap suc (removed_length us i t h)

-- numbers that are distinct without one of them, which isn't there any more
distinct_removed : (us : List ℕ) (i t : ℕ) → slice_get us i ≡ Some t → are_distinct us ≡ true → (are_distinct (remove us i) ≡ true) × (has (remove us i) t ≡ false)
distinct_removed [] i t h d = absurd (cc)
distinct_removed (u ∷ us) zero t h d =
    let own : u ≡ t = cc in
    let parts = both_true (not (has us u)) (are_distinct us) d in
    (parts.1, subst (λ (v : ℕ). has us v ≡ false) own (not_true (has us u) parts.0))
distinct_removed (u ∷ us) (suc i) t h d =
    let parts = both_true (not (has us u)) (are_distinct us) d in
    let rest = distinct_removed us i t h parts.1 in
    let none : has us u ≡ false = not_true (has us u) parts.0 in
    let both = either_false (t == u) (has (remove us i) u) (sym (has_removed us i t u h) ∙ none) in
    (ap (λ b. not b && are_distinct (remove us i)) both.1 ∙ rest.0, ap (λ b. b || has (remove us i) t) (turned t u both.0) ∙ rest.1)

-- Where a number is in a list.
where_in : (us : List ℕ) (t : ℕ) → has us t ≡ true → (i : ℕ) × (slice_get us i ≡ Some t)
where_in [] t h = absurd (cc)
where_in (u ∷ us) t h = by (u == t) refl h (where_in us t)
  where
    by : (b : Bool) → (u == t) ≡ b → (b || has us t) ≡ true → (has us t ≡ true → (i : ℕ) × (slice_get us i ≡ Some t)) → (i : ℕ) × (slice_get (u ∷ us) i ≡ Some t)
    by true e h rest = (0, ap (λ (v : ℕ). Some v) (same_number u t e))
    by false e h rest = let w = rest h in (suc w.0, w.1)

-- Arranged numbers --

are_in_more : (us vs ts : List ℕ) → ((t : ℕ) → has us t ≡ true → has vs t ≡ true) → are_in us ts ≡ true → are_in vs ts ≡ true
are_in_more us vs [] among h = refl
are_in_more us vs (t ∷ ts) among h =
    let parts = both_true (has us t) (are_in us ts) h in
    and_true (has vs t) (are_in vs ts) (among t parts.0) (are_in_more us vs ts among parts.1)

-- what is in a list is in one that has its numbers in some order
arranged_has : (us ts : List ℕ) → AreArranged us ts → (v : ℕ) → has us v ≡ has ts v
arranged_has us [] h v = ap (λ (xs : List ℕ). has xs v) h
arranged_has us (t ∷ ts) h v = has_removed us h.0 t v h.1.0 ∙ ap (λ b. (t == v) || b) (arranged_has (remove us h.0) ts h.1.1 v)

arranged_length : (us ts : List ℕ) → AreArranged us ts → length ts ≡ length us
arranged_length us [] h = sym (ap (λ (xs : List ℕ). length xs) h)
arranged_length us (t ∷ ts) h = ap suc (arranged_length (remove us h.0) ts h.1.1) ∙ removed_length us h.0 t h.1.0

arranged_distinct : (us ts : List ℕ) → are_distinct us ≡ true → AreArranged us ts → are_distinct ts ≡ true
arranged_distinct us [] d h = refl
arranged_distinct us (t ∷ ts) d h =
    let rest = distinct_removed us h.0 t h.1.0 d in
    let none : has ts t ≡ false = sym (arranged_has (remove us h.0) ts h.1.1 t) ∙ rest.1 in
    ap (λ b. not b && are_distinct ts) none ∙ arranged_distinct (remove us h.0) ts rest.0 h.1.1

arranged_in : (us ts : List ℕ) → AreArranged us ts → are_in us ts ≡ true
arranged_in us [] h = refl
arranged_in us (t ∷ ts) h =
    and_true (has us t) (are_in us ts) (has_here us h.0 t h.1.0)
    (are_in_more (remove us h.0) us ts (λ v k. removed_among us h.0 t v h.1.0 k) (arranged_in (remove us h.0) ts h.1.1))

-- What is arranged of distinct numbers has each once.
pub arranged_order : (us ts : List ℕ) → are_distinct us ≡ true → AreArranged us ts → is_order_of us ts ≡ true
arranged_order us ts d h =
    and_true (are_in us ts && are_distinct ts) (length ts == length us)
    (and_true (are_in us ts) (are_distinct ts) (arranged_in us ts h) (arranged_distinct us ts d h))
    (same_test (length ts) (length us) (arranged_length us ts h))

-- the others are still there without one
are_in_others : (us : List ℕ) (i t : ℕ) → slice_get us i ≡ Some t → (ts : List ℕ) → has ts t ≡ false → are_in us ts ≡ true → are_in (remove us i) ts ≡ true
are_in_others us i t h [] none all = refl
are_in_others us i t h (x ∷ xs) none all =
    let parts = both_true (has us x) (are_in us xs) all in
    let apart = either_false (x == t) (has xs t) none in
    let there : has (remove us i) x ≡ true = sym (ap (λ b. b || has (remove us i) x) (turned x t apart.0)) ∙ sym (has_removed us i t x h) ∙ parts.0 in
    and_true (has (remove us i) x) (are_in (remove us i) xs) there (are_in_others us i t h xs apart.1 parts.1)

none_left : (us : List ℕ) → 0 ≡ length us → us ≡ []
none_left [] h = refl
none_left (u ∷ us) h = absurd (omega (arith, h))

arranged_by : (us ts : List ℕ) → are_in us ts ≡ true → are_distinct ts ≡ true → length ts ≡ length us → AreArranged us ts
arranged_by us [] all d many = none_left us many
arranged_by us (t ∷ ts) all d many =
    let parts = both_true (has us t) (are_in us ts) all in
    let apart = both_true (not (has ts t)) (are_distinct ts) d in
    let w = where_in us t parts.0 in
    let fewer : suc (length (remove us w.0)) ≡ length us = removed_length us w.0 t w.1 in
    (w.0, (w.1, arranged_by (remove us w.0) ts (are_in_others us w.0 t w.1 ts (not_true (has ts t) apart.0) parts.1) apart.1 (omega (arith, fewer, many))))

-- What has each number once is arranged.
pub order_arranged : (us ts : List ℕ) → is_order_of us ts ≡ true → AreArranged us ts
order_arranged us ts h =
    let both = both_true (are_in us ts && are_distinct ts) (length ts == length us) h in
    let parts = both_true (are_in us ts) (are_distinct ts) both.0 in
    arranged_by us ts parts.0 parts.1 (same_number (length ts) (length us) both.1)

-- Commit order --

arranged_self : (us : List ℕ) → AreArranged us us
arranged_self [] = refl
arranged_self (u ∷ us) = (0, (refl, arranged_self us))

-- The transactions of committed programs.
abbrev pub txns : List Committed → List ℕ
txns cs = map (λ (c : Committed). c.txn) cs

-- Commit order is an order where none commits twice.
pub commit_order : (cs : List Committed) → are_distinct (txns cs) ≡ true → IsOrder cs (txns cs)
commit_order cs d = arranged_order (txns cs) (txns cs) d (arranged_self (txns cs))

-- one that isn't asked for may be left out
without_first : (c : Committed) (cs : List Committed) (ts : List ℕ) → has ts c.txn ≡ false → in_order (c ∷ cs) ts ≡ in_order cs ts
without_first c cs [] none = refl
without_first c cs (t ∷ ts) none =
    let parts = either_false (t == c.txn) (has ts c.txn) none in
    ap₂ (λ (x y : List Committed). x ++ y) (ap (λ b. cond b (c ∷ []) (of_txn cs t)) (turned t c.txn parts.0)) (without_first c cs ts parts.1)

pub in_commit_order : (cs : List Committed) → are_distinct (txns cs) ≡ true → in_order cs (txns cs) ≡ cs
in_commit_order [] d = refl
in_commit_order (c ∷ cs) d =
    let parts = both_true (not (has (txns cs) c.txn)) (are_distinct (txns cs)) d in
    ap (λ b. cond b (c ∷ []) (of_txn cs c.txn) ++ in_order (c ∷ cs) (txns cs)) (same_self c.txn)
    ∙ ap (λ (xs : List Committed). c ∷ xs) (without_first c cs (txns cs) (not_true (has (txns cs) c.txn) parts.0) ∙ in_commit_order cs parts.1)
