-- Entries in the order of their keys, edited at a place.
use Rattle.std.specs.List.{insert}
use Rattle.std.specs.FinMap.Entries.{by_order, put, find, below_all, is_sorted}
use Rattle.std.specs.Ordering.{is_eq, is_lt}
use Rattle.std.specs.declared.cmp.Ordering.{Ordering}
use Rattle.std.specs.declared.cmp.Ordering.TheVariants.{Less, Equal, Greater}
use Rattle.std.specs.Prelude.{T}
use Rattle.std.proofs.Common.{◌≡◌, ℕ, zero, suc, ◌+◌, ◌<◌, length, get_or, set, Bool, true, false, cond, Some, None, List, [], ◌∷◌, ◌++◌, ◌&&◌, sym, ◌∙◌, ap, refl, arith, subst, ◌⊎◌, inl, inr}
use Rattle.std.specs.Cmp.{IsTotalOrder}

second : (a b : Bool) → T (a && b) → T b
second true b p = p
second false b p = absurd p

first : (a b : Bool) → T (a && b) → T a
first true b p = tt
first false b p = p

both : (a b : Bool) → T a → T b → T (a && b)
both true b p q = q
both false b p q = p

less_of : (o : Ordering) → T (is_lt o) → o ≡ Less
less_of Less h = refl
less_of Equal h = absurd h
less_of Greater h = absurd h

module _ {K X : Type 0} (R : K → K → Ordering) where
  -- every entry before place i is below k
  abbrev pub ArePast : K → List (K × X) → ℕ → Type 0
  ArePast k es i = (j : ℕ) (d : K × X) → j < i → R k (get_or es j d).0 ≡ Greater

  pub past_none : (k : K) (es : List (K × X)) → ArePast k es 0
  past_none k es j d lt = absurd (omega arith)

  pub past_more : (k : K) (es : List (K × X)) (i : ℕ) → ArePast k es i → ((d : K × X) → R k (get_or es i d).0 ≡ Greater) → ArePast k es (i + 1)
  past_more k es i past here j d lt = split (at_or_before j i lt)
    where
      at_or_before : (j i : ℕ) → j < i + 1 → (j ≡ i) ⊎ (j < i)
      at_or_before j i lt = grind arith

      split : (j ≡ i) ⊎ (j < i) → R k (get_or es j d).0 ≡ Greater
      split (inl e) = rw e (here d)
      split (inr b) = past j d b

  rest_past : (k : K) (e : K × X) (es : List (K × X)) (i : ℕ) → ArePast k (e ∷ es) (suc i) → ArePast k es i
  rest_past k e es i past j d lt = past (suc j) d (omega arith)

  put_past : (k : K) (v : X) (e : K × X) (es : List (K × X)) → R k e.0 ≡ Greater → put R k v (e ∷ es) ≡ e ∷ put R k v es
  put_past k v e es h = ap (λ o. by_order o ((k, v) ∷ e ∷ es) ((e.0, v) ∷ es) (e ∷ put R k v es)) h

  find_past : (k : K) (e : K × X) (es : List (K × X)) → R k e.0 ≡ Greater → find R k (e ∷ es) ≡ find R k es
  find_past k e es h = ap (λ o. cond (is_eq o) (Some e.1) (find R k es)) h

  -- the place of the first entry above k
  pub put_insert : (k : K) (v : X) (es : List (K × X)) (i : ℕ) → i < length es → ArePast k es i → ((d : K × X) → R k (get_or es i d).0 ≡ Less) → put R k v es ≡ insert es i (k, v)
  put_insert k v [] i lt past here = absurd (omega arith)
  put_insert k v (e ∷ es) zero lt past here = ap (λ o. by_order o ((k, v) ∷ e ∷ es) ((e.0, v) ∷ es) (e ∷ put R k v es)) (here e)
  put_insert k v (e ∷ es) (suc i) lt past here =
      put_past k v e es (past 0 e (omega arith)) ∙ ap (λ l. e ∷ l) (put_insert k v es i (omega arith) (rest_past k e es i past) here)

  -- the place of k
  pub put_overwrite : (k : K) (v : X) (es : List (K × X)) (i : ℕ) → i < length es → ArePast k es i → ((d : K × X) → R k (get_or es i d).0 ≡ Equal) → (d : K × X) → put R k v es ≡ set es i ((get_or es i d).0, v)
  put_overwrite k v [] i lt past here d = absurd (omega arith)
  put_overwrite k v (e ∷ es) zero lt past here d = ap (λ o. by_order o ((k, v) ∷ e ∷ es) ((e.0, v) ∷ es) (e ∷ put R k v es)) (here e)
  put_overwrite k v (e ∷ es) (suc i) lt past here d =
      put_past k v e es (past 0 e (omega arith)) ∙ ap (λ l. e ∷ l) (put_overwrite k v es i (omega arith) (rest_past k e es i past) here d)

  pub put_end : (k : K) (v : X) (es : List (K × X)) → ArePast k es (length es) → put R k v es ≡ es ++ (k, v) ∷ []
  put_end k v [] past = refl
  put_end k v (e ∷ es) past = put_past k v e es (past 0 e (omega arith)) ∙ ap (λ l. e ∷ l) (put_end k v es (rest_past k e es (length es) past))

  pub find_there : (k : K) (es : List (K × X)) (i : ℕ) → i < length es → ArePast k es i → ((d : K × X) → R k (get_or es i d).0 ≡ Equal) → (d : K × X) → find R k es ≡ Some (get_or es i d).1
  find_there k [] i lt past here d = absurd (omega arith)
  find_there k (e ∷ es) zero lt past here d = ap (λ o. cond (is_eq o) (Some e.1) (find R k es)) (here e)
  find_there k (e ∷ es) (suc i) lt past here d = find_past k e es (past 0 e (omega arith)) ∙ find_there k es i (omega arith) (rest_past k e es i past) here d

  pub find_end : (k : K) (es : List (K × X)) → ArePast k es (length es) → find R k es ≡ None
  find_end k [] past = refl
  find_end k (e ∷ es) past = find_past k e es (past 0 e (omega arith)) ∙ find_end k es (rest_past k e es (length es) past)

  below_trans : IsTotalOrder R → (x y : K) (es : List (K × X)) → R x y ≡ Less → T (below_all R y es) → T (below_all R x es)
  below_trans o x y [] h b = tt
  below_trans o x y (e ∷ es) h b = both _ _ (subst (λ r. T (is_lt r)) (sym (o.trans x y e.0 h (less_of _ (first _ _ b)))) tt) (below_trans o x y es h (second _ _ b))

  find_below : (k : K) (es : List (K × X)) → T (below_all R k es) → find R k es ≡ None
  find_below k [] h = refl
  find_below k (e ∷ es) h = ap (λ o. cond (is_eq o) (Some e.1) (find R k es)) (less_of _ (first _ _ h)) ∙ find_below k es (second _ _ h)

  -- no entry of k where the first entry that isn't below it is above it
  pub find_gap : IsTotalOrder R → (k : K) (es : List (K × X)) (i : ℕ) → i < length es → ArePast k es i → ((d : K × X) → R k (get_or es i d).0 ≡ Less) → T (is_sorted R es) → find R k es ≡ None
  find_gap o k [] i lt past here s = absurd (omega arith)
  find_gap o k (e ∷ es) zero lt past here s = ap (λ r. cond (is_eq r) (Some e.1) (find R k es)) (here e) ∙ find_below k es (below_trans o k e.0 es (here e) (first _ _ s))
  find_gap o k (e ∷ es) (suc i) lt past here s = find_past k e es (past 0 e (omega arith)) ∙ find_gap o k es i (omega arith) (rest_past k e es i past) here (second _ _ s)
