-- The transactions that occur, in order of first appearance.
use Rattle.std.proofs.Common.{◌≡◌, ℕ, zero, suc, ◌<◌, ◌==◌, Bool, true, false, cond, not, List, [], ◌∷◌, length, refl, ap, sym, ◌∙◌, subst, arith}
use Rattle.std.specs.Prelude.{◌≢◌, ◌⊎◌, ◌↔◌, All, AllPairs, Contains, filter, slice_index_or}
use mathlib.Core.Logic.{inl, inr}
use Rattle.std.proofs.lemmas.Bool.{eqb-true, eq-eqb}
use Rattle.std.proofs.lemmas.Bool.Decides.{nat_tests}
use Rattle.std.proofs.lemmas.List.Elements.{All-contains, All-cons, All-nil, All-filter, All-weaker, filter_passes}
use Rattle.kr_model.specs.declared.Event.{Event}
use Rattle.kr_workers.specs.Follows.{ops_of}
use Rattle.kr_workers.specs.Dealt.{firsts}

-- Those that occur --

filter_has : (p : ℕ → Bool) (xs : List ℕ) (t k : ℕ) → p t ≡ true → k < length xs → slice_index_or xs k t ≡ t → Contains (filter p xs) t
filter_has p [] t k pt within is = absurd (omega arith)
filter_has p (x ∷ xs) t zero pt within is = subst (λ (b : Bool). Contains (cond b (x ∷ filter p xs) (filter p xs)) t) (sym (ap p is ∙ pt)) (0, omega arith, is)
filter_has p (x ∷ xs) t (suc k) pt within is = by (p x) (filter_has p xs t k pt (omega arith) is)
  where
    by : (b : Bool) → Contains (filter p xs) t → Contains (cond b (x ∷ filter p xs) (filter p xs)) t
    by true r = (suc r.0, omega (arith, r.1), r.2)
    by false r = r

-- A transaction occurs or has no operations.
pub occurs : (t : ℕ) (es : List Event) → Contains (firsts es) t ⊎ (ops_of t es ≡ [])
occurs t [] = inr refl
occurs t (e ∷ es) = by (e.txn == t) refl (occurs t es)
  where
    other : (e.txn == t) ≡ false → not (t == e.txn) ≡ true
    other is = grind (arith, nat_tests)

    by : (b : Bool) → (e.txn == t) ≡ b → Contains (firsts es) t ⊎ (ops_of t es ≡ []) → Contains (firsts (e ∷ es)) t ⊎ (cond b (e.op ∷ ops_of t es) (ops_of t es) ≡ [])
    by true is r = inl (0, omega arith, eqb-true e.txn t is)
    by false is (inl r) =
        let kept = filter_has (λ u. not (u == e.txn)) (firsts es) t r.0 (other is) r.1 r.2 in
        inl (suc kept.0, omega (arith, kept.1), kept.2)
    by false is (inr none) = inr none

-- One that occurs has operations.
pub all_occur : (es : List Event) → All (λ t. 0 < length (ops_of t es)) (firsts es)
all_occur [] = All-nil (λ t. 0 < length (ops_of t []))
all_occur (e ∷ es) =
    All-cons (λ t. 0 < length (ops_of t (e ∷ es))) e.txn (filter (λ t. not (t == e.txn)) (firsts es)) first
    (All-filter (λ t. not (t == e.txn)) (λ t. 0 < length (ops_of t (e ∷ es))) (firsts es) (All-weaker (λ t. 0 < length (ops_of t es)) (λ t. 0 < length (ops_of t (e ∷ es))) more (firsts es) (all_occur es)))
  where
    by : (t : ℕ) (b : Bool) → 0 < length (ops_of t es) ⊎ (b ≡ true) → 0 < length (cond b (e.op ∷ ops_of t es) (ops_of t es))
    by t true r = omega arith
    by t false (inl some) = some
    by t false (inr is) = absurd (cc)

    first : 0 < length (ops_of e.txn (e ∷ es))
    first = by e.txn (e.txn == e.txn) (inr (eq-eqb e.txn e.txn refl))

    more : (t : ℕ) → 0 < length (ops_of t es) → 0 < length (ops_of t (e ∷ es))
    more t some = by t (e.txn == t) (inl some)

-- A transaction is among them exactly where it has operations.
pub occurs_exactly : (t : ℕ) (es : List Event) → Contains (firsts es) t ↔ (ops_of t es ≢ [])
occurs_exactly t es = (there, back (occurs t es))
  where
    there : Contains (firsts es) t → ops_of t es ≢ []
    there has none =
        let some : 0 < length (ops_of t es) = All-contains (λ u. 0 < length (ops_of u es)) (firsts es) t (all_occur es) has in
        absurd (omega (arith, some, ap length none))

    back : Contains (firsts es) t ⊎ (ops_of t es ≡ []) → ops_of t es ≢ [] → Contains (firsts es) t
    back (inl has) some = has
    back (inr none) some = absurd (some none)

-- Each once --

apart_first : (x : ℕ) (xs : List ℕ) → All (λ u. x ≢ u) xs → AllPairs (λ t u. t ≢ u) xs → AllPairs (λ t u. t ≢ u) (x ∷ xs)
apart_first x xs first rest zero zero d ij within = absurd (omega arith)
apart_first x xs first rest zero (suc j) d ij within = first j d (omega arith)
apart_first x xs first rest (suc i) zero d ij within = absurd (omega arith)
apart_first x xs first rest (suc i) (suc j) d ij within = rest i j d (omega arith) (omega arith)

apart_filter : (p : ℕ → Bool) (xs : List ℕ) → AllPairs (λ t u. t ≢ u) xs → AllPairs (λ t u. t ≢ u) (filter p xs)
apart_filter p [] h = h
apart_filter p (x ∷ xs) h = by (p x) (apart_filter p xs (λ i j d ij within. h (suc i) (suc j) d (omega arith) (omega arith)))
  where
    first : All (λ u. x ≢ u) (filter p xs)
    first = All-filter p (λ u. x ≢ u) xs (λ k d within. h 0 (suc k) d (omega arith) (omega arith))

    by : (b : Bool) → AllPairs (λ t u. t ≢ u) (filter p xs) → AllPairs (λ t u. t ≢ u) (cond b (x ∷ filter p xs) (filter p xs))
    by true rest = apart_first x (filter p xs) first rest
    by false rest = rest

-- No transaction stands at two places.
pub firsts_apart : (es : List Event) → AllPairs (λ t u. t ≢ u) (firsts es)
firsts_apart [] = λ i j d ij within. absurd (omega arith)
firsts_apart (e ∷ es) =
    apart_first e.txn (filter (λ t. not (t == e.txn)) (firsts es))
    (All-weaker (λ t. not (t == e.txn) ≡ true) (λ t. e.txn ≢ t) (λ t other same. other_than t (e.txn) other same) (filter (λ t. not (t == e.txn)) (firsts es)) (filter_passes (λ t. not (t == e.txn)) (firsts es)))
    (apart_filter (λ t. not (t == e.txn)) (firsts es) (firsts_apart es))
  where
    other_than : (t x : ℕ) → not (t == x) ≡ true → x ≡ t → ⊥
    other_than t x other same = grind (arith, nat_tests)
