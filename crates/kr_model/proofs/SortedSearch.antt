-- What a binary search ends at among entries in the order of their keys, and what stands there.
use Rattle.std.specs.List.{insert, remove, HoldsAt}
use Rattle.std.specs.List.Sorted.{IsPartitionPoint, IsNonDecreasingBy}
use Rattle.std.specs.FinMap.Entries.{put, find, below_all, is_sorted, where_key}
use Rattle.std.specs.Ordering.{eq_by_cmp, is_eq, is_lt, ordering_index, ordering_reverse}
use Rattle.std.specs.declared.cmp.Ordering.{Ordering}
use Rattle.std.specs.declared.cmp.Ordering.TheVariants.{Less, Equal, Greater}
use Rattle.std.specs.Prelude.{T}
use Rattle.std.specs.Cmp.{IsTotalOrder}
use Rattle.std.proofs.Common.{◌≡◌, ℕ, zero, suc, ◌<◌, ◌≤◌, length, get_or, set, Bool, true, false, cond, not, Some, None, List, [], ◌∷◌, ◌++◌, ◌&&◌, sym, ◌∙◌, ap, refl, arith, subst, ◌⊎◌, inl, inr}
use Rattle.kr_model.proofs.Entries.{ArePast, put_insert, put_overwrite, put_end, find_there, find_end, find_gap}

second : (a b : Bool) → T (a && b) → T b
second true b p = p
second false b p = absurd p

first : (a b : Bool) → T (a && b) → T a
first true b p = tt
first false b p = p

less_of : (o : Ordering) → T (is_lt o) → o ≡ Less
less_of Less h = refl
less_of Equal h = absurd h
less_of Greater h = absurd h

at_most_greater : (o : Ordering) → ordering_index o ≤ 2
at_most_greater Less = omega arith
at_most_greater Equal = omega arith
at_most_greater Greater = omega arith

end_or_before : (i n : ℕ) → i ≤ n → (i ≡ n) ⊎ (i < n)
end_or_before i n le = grind arith

module _ {K : Type 0} (R : K → K → Ordering) (o : IsTotalOrder R) where
  -- a lower key compares no higher
  pub index_rises : (x y k : K) → R x y ≡ Less → ordering_index (R x k) ≤ ordering_index (R y k)
  index_rises x y k lt = by (R y k) refl
    where
      by : (r : Ordering) → R y k ≡ r → ordering_index (R x k) ≤ ordering_index r
      by Less e = rw (o.trans x y k lt e) (omega arith)
      by Equal e = let here : R x k ≡ Less = o.antisymm x k ∙ ap ordering_reverse (sym (o.congr y k x e)) ∙ sym (o.antisymm x y) ∙ lt in rw here (omega arith)
      by Greater e = at_most_greater (R x k)

  turned : (x k : K) (r : Ordering) → R x k ≡ r → R k x ≡ ordering_reverse r
  turned x k r e = o.antisymm k x ∙ ap ordering_reverse e

module _ {K X : Type 0} (R : K → K → Ordering) (o : IsTotalOrder R) where
  below_at : (x : K) (es : List (K × X)) (j : ℕ) (d : K × X) → T (below_all R x es) → j < length es → R x (get_or es j d).0 ≡ Less
  below_at x [] j d below lt = absurd (omega arith)
  below_at x (e ∷ es) zero d below lt = less_of _ (first _ _ below)
  below_at x (e ∷ es) (suc j) d below lt = below_at x es j d (second _ _ below) (omega arith)

  -- each key is below the later ones
  pub sorted_at : (es : List (K × X)) (i j : ℕ) (d : K × X) → T (is_sorted R es) → i < j → j < length es → R (get_or es i d).0 (get_or es j d).0 ≡ Less
  sorted_at [] i j d s lt in_range = absurd (omega arith)
  sorted_at (e ∷ es) i zero d s lt in_range = absurd (omega arith)
  sorted_at (e ∷ es) zero (suc j) d s lt in_range = below_at e.0 es j d (first _ _ s) (omega arith)
  sorted_at (e ∷ es) (suc i) (suc j) d s lt in_range = sorted_at es i j d (second _ _ s) (omega arith) (omega arith)

  -- the comparisons with a key rise, as a binary search asks
  pub comparisons_rise : (k : K) (es : List (K × X)) → T (is_sorted R es) → IsNonDecreasingBy (λ e. ordering_index (R e.0 k)) es
  comparisons_rise k es s i j d le in_range = split (end_or_before i j le)
    where
      split : (i ≡ j) ⊎ (i < j) → ordering_index (R (get_or es i d).0 k) ≤ ordering_index (R (get_or es j d).0 k)
      split (inl e) = rw e (omega arith)
      split (inr lt) = index_rises R o (get_or es i d).0 (get_or es j d).0 k (sorted_at es i j d s lt in_range)

  here_of : (k : K) (es : List (K × X)) (i : ℕ) → HoldsAt (λ e. R e.0 k ≡ Equal) es i → (d : K × X) → R k (get_or es i d).0 ≡ Equal
  here_of k es i here d = turned R o (get_or es i d).0 k Equal (here d)

  -- the entries before the place of k are below it
  pub past_place : (k : K) (es : List (K × X)) (i : ℕ) → T (is_sorted R es) → i < length es → HoldsAt (λ e. R e.0 k ≡ Equal) es i → ArePast R k es i
  past_place k es i s in_range here j d lt =
      o.congr k (get_or es i d).0 (get_or es j d).0 (here_of k es i here d) ∙ turned R o (get_or es j d).0 (get_or es i d).0 Less (sorted_at es j i d s lt in_range)

  -- the value at the place of k is found
  pub find_place : (k : K) (es : List (K × X)) (i : ℕ) → T (is_sorted R es) → i < length es → HoldsAt (λ e. R e.0 k ≡ Equal) es i → (d : K × X) → find R k es ≡ Some (get_or es i d).1
  find_place k es i s in_range here d = find_there R k es i in_range (past_place k es i s in_range here) (here_of k es i here) d

  -- and written over
  pub put_place : (k : K) (v : X) (es : List (K × X)) (i : ℕ) → T (is_sorted R es) → i < length es → HoldsAt (λ e. R e.0 k ≡ Equal) es i → (d : K × X) → put R k v es ≡ set es i ((get_or es i d).0, v)
  put_place k v es i s in_range here d = put_overwrite R k v es i in_range (past_place k es i s in_range here) (here_of k es i here) d

  past_gap : (k : K) (es : List (K × X)) (i : ℕ) → IsPartitionPoint (λ e. R e.0 k ≡ Less) (λ e. R e.0 k ≡ Greater) es i → ArePast R k es i
  past_gap k es i point j d lt = turned R o (get_or es j d).0 k Less (point.0 j d (omega arith) lt)

  above_gap : (k : K) (es : List (K × X)) (i : ℕ) → IsPartitionPoint (λ e. R e.0 k ≡ Less) (λ e. R e.0 k ≡ Greater) es i → i < length es → (d : K × X) → R k (get_or es i d).0 ≡ Less
  above_gap k es i point lt d = turned R o (get_or es i d).0 k Greater (point.1 i d (omega arith) lt)

  -- nothing is found where k has only a gap
  pub find_none : (k : K) (es : List (K × X)) (i : ℕ) → T (is_sorted R es) → i ≤ length es → IsPartitionPoint (λ e. R e.0 k ≡ Less) (λ e. R e.0 k ≡ Greater) es i → find R k es ≡ None
  find_none k es i s le point = split (end_or_before i (length es) le)
    where
      split : (i ≡ length es) ⊎ (i < length es) → find R k es ≡ None
      split (inl e) = find_end R k es (subst (ArePast R k es) e (past_gap k es i point))
      split (inr lt) = find_gap R o k es i lt (past_gap k es i point) (above_gap k es i point lt) s

  insert_end : (es : List (K × X)) (e : K × X) → insert es (length es) e ≡ es ++ e ∷ []
  insert_end [] e = refl
  insert_end (x ∷ es) e = ap (λ l. x ∷ l) (insert_end es e)

  -- k goes into its gap
  pub put_gap : (k : K) (v : X) (es : List (K × X)) (i : ℕ) → i ≤ length es → IsPartitionPoint (λ e. R e.0 k ≡ Less) (λ e. R e.0 k ≡ Greater) es i → put R k v es ≡ insert es i (k, v)
  put_gap k v es i le point = split (end_or_before i (length es) le)
    where
      split : (i ≡ length es) ⊎ (i < length es) → put R k v es ≡ insert es i (k, v)
      split (inl e) = put_end R k v es (subst (ArePast R k es) e (past_gap k es i point)) ∙ sym (insert_end es (k, v)) ∙ ap (λ n. insert es n (k, v)) (sym e)
      split (inr lt) = put_insert R k v es i lt (past_gap k es i point) (above_gap k es i point lt)

  passed : (k : K) (e : K × X) (es : List (K × X)) (r : Ordering) → is_eq r ≡ false → R k e.0 ≡ r → where_key R (λ x. not (eq_by_cmp R k x)) (e ∷ es) ≡ e ∷ where_key R (λ x. not (eq_by_cmp R k x)) es
  passed k e es r differs h =
      ap (λ q. cond (not (is_eq q)) (e ∷ where_key R (λ x. not (eq_by_cmp R k x)) es) (where_key R (λ x. not (eq_by_cmp R k x)) es)) h
      ∙ ap (λ b. cond (not b) (e ∷ where_key R (λ x. not (eq_by_cmp R k x)) es) (where_key R (λ x. not (eq_by_cmp R k x)) es)) differs

  -- the entries without k where each key is another
  without_none : (k : K) (es : List (K × X)) → ((j : ℕ) (d : K × X) → j < length es → is_eq (R k (get_or es j d).0) ≡ false) → where_key R (λ x. not (eq_by_cmp R k x)) es ≡ es
  without_none k [] others = refl
  without_none k (e ∷ es) others = passed k e es (R k e.0) (others 0 e (omega arith)) refl ∙ ap (λ l. e ∷ l) (without_none k es (λ j d lt. others (suc j) d (omega arith)))

  -- nothing is taken away where k has only a gap
  pub without_gap : (k : K) (es : List (K × X)) (i : ℕ) → IsPartitionPoint (λ e. R e.0 k ≡ Less) (λ e. R e.0 k ≡ Greater) es i → where_key R (λ x. not (eq_by_cmp R k x)) es ≡ es
  without_gap k es i point = without_none k es others
    where
      sides : (i j : ℕ) → (j < i) ⊎ (i ≤ j)
      sides i j = grind arith

      others : (j : ℕ) (d : K × X) → j < length es → is_eq (R k (get_or es j d).0) ≡ false
      others j d lt = elim (sides i j) [
        | inl before ↦ ap is_eq (turned R o (get_or es j d).0 k Less (point.0 j d (omega arith) before))
        | inr after ↦ ap is_eq (turned R o (get_or es j d).0 k Greater (point.1 j d after lt))
      ]

  without_below : (k : K) (es : List (K × X)) → T (below_all R k es) → where_key R (λ x. not (eq_by_cmp R k x)) es ≡ es
  without_below k es below = without_none k es (λ j d lt. ap is_eq (below_at k es j d below lt))

  below_same : (x k : K) (es : List (K × X)) → R k x ≡ Equal → T (below_all R x es) → T (below_all R k es)
  below_same x k [] e below = tt
  below_same x k (y ∷ es) e below = joined _ _ (subst (λ r. T (is_lt r)) (sym (o.congr k x y.0 e)) (first _ _ below)) (below_same x k es e (second _ _ below))
    where
      joined : (a b : Bool) → T a → T b → T (a && b)
      joined true b p q = q
      joined false b p q = p

  -- the entry at the place of k is taken away
  pub without_place : (k : K) (es : List (K × X)) (i : ℕ) → T (is_sorted R es) → i < length es → HoldsAt (λ e. R e.0 k ≡ Equal) es i → where_key R (λ x. not (eq_by_cmp R k x)) es ≡ remove es i
  without_place k [] i s in_range here = absurd (omega arith)
  without_place k (e ∷ es) zero s in_range here =
      let tie : R k e.0 ≡ Equal = here_of k (e ∷ es) 0 here e in
      ap (λ r. cond (not (is_eq r)) (e ∷ where_key R (λ x. not (eq_by_cmp R k x)) es) (where_key R (λ x. not (eq_by_cmp R k x)) es)) tie
      ∙ without_below k es (below_same e.0 k es tie (first _ _ s))
  without_place k (e ∷ es) (suc i) s in_range here =
      passed k e es Greater refl (past_place k (e ∷ es) (suc i) s in_range here 0 e (omega arith)) ∙ ap (λ l. e ∷ l) (without_place k es i (second _ _ s) (omega arith) here)
