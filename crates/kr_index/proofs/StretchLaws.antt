-- What edits of stretches keep.
use Rattle.std.specs.Prelude.{nat_le, ◌==◌, cond, Option}
use Rattle.std.specs.List.{insert, remove}
use Rattle.std.specs.List.Sorted.{IsPartitionedBy, IsPartitionPoint}
use Rattle.std.proofs.Common.{◌≡◌, ℕ, zero, suc, ◌+◌, ◌-◌, ◌<◌, ◌≤◌, ◌⊎◌, inl, inr, length, get_or, set, Bool, true, false, IsTrue, List, None, sym, ◌∙◌, ap, refl, arith, subst}
use Rattle.std.proofs.lemmas.List.Edits.{length-insert, length-remove, get_or-insert_below, get_or-insert_at, get_or-insert_above, get_or-remove_below, get_or-remove_above}
use Rattle.std.proofs.lemmas.List.{get_or-set_same, get_or-set_other, get_or_default}
use Rattle.std.proofs.lemmas.Bool.Decides.{nat_tests}
use Rattle.std.proofs.Math.ListN.{length-set}
use Rattle.kr_model.specs.Map.{Map, get, without}
use Rattle.kr_model.specs.Map.{set as map_set}
use Rattle.kr_model.proofs.MapLaws.{get-set_other, get-without}
use Rattle.kr_index.specs.declared.stretches.Stretch.{Stretch}
use Rattle.kr_index.specs.Stretches.{IsIn, IsRising, IsBare, AreMarked}

three : (a b : ℕ) → (a < b) ⊎ ((a ≡ b) ⊎ (b < a))
three a b = grind arith

-- One stretch written --

module _ (ss : List Stretch) (i : ℕ) (s : Stretch) (in_range : i < length ss) (same : (d : Stretch) → s.from ≡ (get_or ss i d).from) where
  begins : (j : ℕ) (d : Stretch) → (get_or (set ss i s) j d).from ≡ (get_or ss j d).from
  begins j d = elim (three j i) [
    | inl lt ↦ ap (λ (x : Stretch). x.from) (get_or-set_other ss i j s d (λ e. absurd (omega arith)))
    | inr (inl e) ↦ rw e (ap (λ (x : Stretch). x.from) (get_or-set_same ss i s d in_range) ∙ same d)
    | inr (inr gt) ↦ ap (λ (x : Stretch). x.from) (get_or-set_other ss i j s d (λ e. absurd (omega arith)))
  ]

  is_in : (q j : ℕ) → IsIn (set ss i s) q j → IsIn ss q j
  is_in q j w = record {
    in_range = omega (arith, w.in_range, length-set ss i s);
    not_before = λ d. omega (arith, w.not_before d, begins j d);
    before_next = λ d lt. omega (arith, w.before_next d (omega (arith, lt, length-set ss i s)), begins (j + 1) d);
  }

  pub rising-set : IsRising ss → IsRising (set ss i s)
  rising-set r = record { rises = λ j k d lt in_k. omega (arith, r.rises j k d lt (omega (arith, in_k, length-set ss i s)), begins j d, begins k d) }

  pub marked-set : (m n : Map) → AreMarked ss m → (IsTrue s.is_bare → IsBare ss n i) → ((q j : ℕ) → (j ≡ i → ⊥) → IsIn ss q j → get m q ≡ None → get n q ≡ None) → AreMarked (set ss i s) n
  marked-set m n marked here others = record { bare = λ j d in_j bare. record { absent = λ q w. by j d (omega (arith, in_j, length-set ss i s)) bare q (is_in q j w) } }
    where
      other : (j : ℕ) (d : Stretch) → j < length ss → IsTrue (get_or (set ss i s) j d).is_bare → (j ≡ i → ⊥) → (q : ℕ) → IsIn ss q j → get n q ≡ None
      other j d in_j bare differs q w = others q j differs w ((marked.bare j d in_j (subst (λ (x : Stretch). IsTrue x.is_bare) (get_or-set_other ss i j s d differs) bare)).absent q w)

      by : (j : ℕ) (d : Stretch) → j < length ss → IsTrue (get_or (set ss i s) j d).is_bare → (q : ℕ) → IsIn ss q j → get n q ≡ None
      by j d in_j bare q w = elim (three j i) [
        | inl lt ↦ other j d in_j bare (λ e. absurd (omega arith)) q w
        | inr (inl e) ↦ (here (subst (λ (x : Stretch). IsTrue x.is_bare) (get_or-set_same ss i s d in_range) (subst (λ (x : ℕ). IsTrue (get_or (set ss i s) x d).is_bare) e bare))).absent q (subst (λ (x : ℕ). IsIn ss q x) e w)
        | inr (inr gt) ↦ other j d in_j bare (λ e. absurd (omega arith)) q w
      ]

-- One stretch added --

module _ (ss : List Stretch) (p : ℕ) (s : Stretch) (fits : p ≤ length ss) (above : (j : ℕ) (d : Stretch) → j < p → (get_or ss j d).from < s.from) (below : (j : ℕ) (d : Stretch) → p ≤ j → j < length ss → s.from < (get_or ss j d).from) where
  after_it : (k : ℕ) (d : Stretch) → p < k → get_or (insert ss p s) k d ≡ get_or ss (k - 1) d
  after_it zero d lt = absurd (omega arith)
  after_it (suc k) d lt = ap (λ (n : ℕ). get_or (insert ss p s) n d) (omega arith) ∙ get_or-insert_above ss p s d k (omega arith) fits ∙ ap (λ (n : ℕ). get_or ss n d) (omega arith)

  length_is : length (insert ss p s) ≡ length ss + 1
  length_is = length-insert ss p s fits

  pub rising-insert : IsRising ss → IsRising (insert ss p s)
  rising-insert r = record { rises = λ i j d lt in_j. by i j d lt (omega (arith, in_j, length_is)) (three i p) (three j p) }
    where
      by : (i j : ℕ) (d : Stretch) → i < j → j < length ss + 1 → (i < p) ⊎ ((i ≡ p) ⊎ (p < i)) → (j < p) ⊎ ((j ≡ p) ⊎ (p < j)) → (get_or (insert ss p s) i d).from < (get_or (insert ss p s) j d).from
      by i j d lt in_j (inl a) (inl b) = rw (get_or-insert_below ss p s d i a fits, get_or-insert_below ss p s d j b fits) (r.rises i j d lt (omega arith))
      by i j d lt in_j (inl a) (inr (inl b)) = rw (b, get_or-insert_below ss p s d i a fits, get_or-insert_at ss p s d fits) (above i d a)
      by i j d lt in_j (inl a) (inr (inr b)) = rw (get_or-insert_below ss p s d i a fits, after_it j d b) (omega (arith, above i d a, below (j - 1) d (omega arith) (omega arith)))
      by i j d lt in_j (inr (inl a)) (inl b) = absurd (omega arith)
      by i j d lt in_j (inr (inl a)) (inr (inl b)) = absurd (omega arith)
      by i j d lt in_j (inr (inl a)) (inr (inr b)) = rw (a, get_or-insert_at ss p s d fits, after_it j d b) (below (j - 1) d (omega arith) (omega arith))
      by i j d lt in_j (inr (inr a)) (inl b) = absurd (omega arith)
      by i j d lt in_j (inr (inr a)) (inr (inl b)) = absurd (omega arith)
      by i j d lt in_j (inr (inr a)) (inr (inr b)) = rw (after_it i d a, after_it j d b) (r.rises (i - 1) (j - 1) d (omega arith) (omega arith))

  -- what is in a stretch before the new one, or in one after it
  in_before : (q j : ℕ) → j < p → IsIn (insert ss p s) q j → IsIn ss q j
  in_before q j a w = record {
    in_range = omega arith;
    not_before = λ d. subst (λ (x : Stretch). x.from ≤ q) (get_or-insert_below ss p s d j a fits) (w.not_before d);
    before_next = λ d lt. by d lt (three (j + 1) p);
  }
    where
      by : (d : Stretch) → j + 1 < length ss → (j + 1 < p) ⊎ ((j + 1 ≡ p) ⊎ (p < j + 1)) → q < (get_or ss (j + 1) d).from
      by d lt (inl b) = subst (λ (x : Stretch). q < x.from) (get_or-insert_below ss p s d (j + 1) b fits) (w.before_next d (omega (arith, length_is)))
      by d lt (inr (inl b)) =
          let q_before : q < s.from = subst (λ (x : Stretch). q < x.from) (ap (λ (n : ℕ). get_or (insert ss p s) n d) b ∙ get_or-insert_at ss p s d fits) (w.before_next d (omega (arith, length_is))) in
          omega (arith, q_before, below (j + 1) d (omega arith) lt)
      by d lt (inr (inr b)) = absurd (omega arith)

  in_after : (q j : ℕ) → p < j → IsIn (insert ss p s) q j → IsIn ss q (j - 1)
  in_after q j a w = record {
    in_range = omega (arith, w.in_range, length_is);
    not_before = λ d. subst (λ (x : Stretch). x.from ≤ q) (after_it j d a) (w.not_before d);
    before_next = λ d lt. subst (λ (x : Stretch). q < x.from) (after_it (j + 1) d (omega arith) ∙ ap (λ (n : ℕ). get_or ss n d) (the (j + 1 - 1 ≡ j - 1 + 1) (omega arith))) (w.before_next d (omega (arith, length_is)));
  }
    where
      the : (A : Type 0) → A → A
      the A a = a

  pub marked-insert : s.is_bare ≡ false → (m : Map) → AreMarked ss m → AreMarked (insert ss p s) m
  marked-insert plain m marked = record { bare = λ j d in_j bare. record { absent = λ q w. by j d (omega (arith, in_j, length_is)) bare q w (three j p) } }
    where
      by : (j : ℕ) (d : Stretch) → j < length ss + 1 → IsTrue (get_or (insert ss p s) j d).is_bare → (q : ℕ) → IsIn (insert ss p s) q j → (j < p) ⊎ ((j ≡ p) ⊎ (p < j)) → get m q ≡ None
      by j d in_j bare q w (inl a) = (marked.bare j d (omega arith) (subst (λ (x : Stretch). IsTrue x.is_bare) (get_or-insert_below ss p s d j a fits) bare)).absent q (in_before q j a w)
      by j d in_j bare q w (inr (inl a)) =
          let is : IsTrue s.is_bare = subst (λ (x : Stretch). IsTrue x.is_bare) (ap (λ (n : ℕ). get_or (insert ss p s) n d) a ∙ get_or-insert_at ss p s d fits) bare in
          absurd (cc (is, plain))
      by j d in_j bare q w (inr (inr a)) = (marked.bare (j - 1) d (omega arith) (subst (λ (x : Stretch). IsTrue x.is_bare) (after_it j d a) bare)).absent q (in_after q j a w)

-- One stretch joined to the one before it --

module _ (ss : List Stretch) (p : ℕ) (s : Stretch) (some : 0 < p) (in_range : p < length ss) (same : (d : Stretch) → s.from ≡ (get_or ss (p - 1) d).from) where
  rest_length : length (remove ss p) + 1 ≡ length ss
  rest_length = length-remove ss p in_range

  same_rest : (d : Stretch) → s.from ≡ (get_or (remove ss p) (p - 1) d).from
  same_rest d = same d ∙ ap (λ (x : Stretch). x.from) (sym (get_or-remove_below ss p d (p - 1) (omega arith) in_range))

  rising-remove : IsRising ss → IsRising (remove ss p)
  rising-remove r = record { rises = λ i j d lt in_j. by i j d lt (omega (arith, in_j, rest_length)) (three i p) (three j p) }
    where
      early : (k : ℕ) (d : Stretch) → k < p → (get_or (remove ss p) k d).from ≡ (get_or ss k d).from
      early k d lt = ap (λ (x : Stretch). x.from) (get_or-remove_below ss p d k lt in_range)

      late : (k : ℕ) (d : Stretch) → p ≤ k → (get_or (remove ss p) k d).from ≡ (get_or ss (k + 1) d).from
      late k d le = ap (λ (x : Stretch). x.from) (get_or-remove_above ss p d k le in_range)

      by : (i j : ℕ) (d : Stretch) → i < j → j + 1 < length ss → (i < p) ⊎ ((i ≡ p) ⊎ (p < i)) → (j < p) ⊎ ((j ≡ p) ⊎ (p < j)) → (get_or (remove ss p) i d).from < (get_or (remove ss p) j d).from
      by i j d lt in_j (inl a) (inl b) = omega (arith, early i d a, early j d b, r.rises i j d lt (omega arith))
      by i j d lt in_j (inl a) (inr b) = omega (arith, early i d a, late j d (split b), r.rises i (j + 1) d (omega arith) in_j)
        where
          split : (j ≡ p) ⊎ (p < j) → p ≤ j
          split (inl e) = omega arith
          split (inr gt) = omega arith
      by i j d lt in_j (inr (inl a)) b = omega (arith, late i d (omega arith), late j d (omega arith), r.rises (i + 1) (j + 1) d (omega arith) in_j)
      by i j d lt in_j (inr (inr a)) b = omega (arith, late i d (omega arith), late j d (omega arith), r.rises (i + 1) (j + 1) d (omega arith) in_j)

  pub rising-join : IsRising ss → IsRising (set (remove ss p) (p - 1) s)
  rising-join r = rising-set (remove ss p) (p - 1) s (omega (arith, rest_length)) same_rest (rising-remove r)

  before_it : (q j : ℕ) → j < p - 1 → IsIn (remove ss p) q j → IsIn ss q j
  before_it q j lt w = record {
    in_range = omega arith;
    not_before = λ d. subst (λ (x : Stretch). x.from ≤ q) (get_or-remove_below ss p d j (omega arith) in_range) (w.not_before d);
    before_next = λ d l. subst (λ (x : Stretch). q < x.from) (get_or-remove_below ss p d (j + 1) (omega arith) in_range) (w.before_next d (omega (arith, rest_length)));
  }

  past_it : (q j : ℕ) → p ≤ j → IsIn (remove ss p) q j → IsIn ss q (j + 1)
  past_it q j le w = record {
    in_range = omega (arith, w.in_range, rest_length);
    not_before = λ d. subst (λ (x : Stretch). x.from ≤ q) (get_or-remove_above ss p d j le in_range) (w.not_before d);
    before_next = λ d l. subst (λ (x : Stretch). q < x.from) (get_or-remove_above ss p d (j + 1) (omega arith) in_range) (w.before_next d (omega (arith, rest_length, l)));
  }

  -- what is in the joined one was in one of the two
  was_in : (q : ℕ) → IsIn (remove ss p) q (p - 1) → (e : Stretch) → (IsIn ss q (p - 1)) ⊎ (IsIn ss q p)
  was_in q w e = elim (three q (get_or ss p e).from) [
    | inl lt ↦ inl (record { in_range = omega arith; not_before = first; before_next = λ d l. subst (λ (x : Stretch). q < x.from) (here d) lt })
    | inr (inl is) ↦ inr (record { in_range = in_range; not_before = λ d. subst (λ (x : Stretch). x.from ≤ q) (there d) (omega arith); before_next = next })
    | inr (inr gt) ↦ inr (record { in_range = in_range; not_before = λ d. subst (λ (x : Stretch). x.from ≤ q) (there d) (omega arith); before_next = next })
  ]
    where
      there : (d : Stretch) → get_or ss p e ≡ get_or ss p d
      there d = get_or_default ss p e d in_range

      here : (d : Stretch) → get_or ss p e ≡ get_or ss (p - 1 + 1) d
      here d = there d ∙ ap (λ (n : ℕ). get_or ss n d) (omega arith)

      first : (d : Stretch) → (get_or ss (p - 1) d).from ≤ q
      first d = subst (λ (x : Stretch). x.from ≤ q) (get_or-remove_below ss p d (p - 1) (omega arith) in_range) (w.not_before d)

      next : (d : Stretch) → p + 1 < length ss → q < (get_or ss (p + 1) d).from
      next d l = subst (λ (x : Stretch). q < x.from) (ap (λ (n : ℕ). get_or (remove ss p) n d) (omega arith) ∙ get_or-remove_above ss p d p (omega arith) in_range) (w.before_next d (omega (arith, rest_length, l)))

  pub marked-join : (IsTrue s.is_bare → (d : Stretch) → IsTrue (get_or ss (p - 1) d).is_bare) → (IsTrue s.is_bare → (d : Stretch) → IsTrue (get_or ss p d).is_bare) → (m : Map) → AreMarked ss m → AreMarked (set (remove ss p) (p - 1) s) m
  marked-join left right m marked = record { bare = λ j d in_j bare. record { absent = λ q w. by j d (omega (arith, in_j, length-set (remove ss p) (p - 1) s, rest_length)) bare q (is_in (remove ss p) (p - 1) s (omega (arith, rest_length)) same_rest q j w) (three j (p - 1)) } }
    where
      bare_at : (j : ℕ) (d : Stretch) → (j ≡ p - 1 → ⊥) → IsTrue (get_or (set (remove ss p) (p - 1) s) j d).is_bare → IsTrue (get_or (remove ss p) j d).is_bare
      bare_at j d differs bare = subst (λ (x : Stretch). IsTrue x.is_bare) (get_or-set_other (remove ss p) (p - 1) j s d differs) bare

      by : (j : ℕ) (d : Stretch) → j + 1 < length ss → IsTrue (get_or (set (remove ss p) (p - 1) s) j d).is_bare → (q : ℕ) → IsIn (remove ss p) q j → (j < p - 1) ⊎ ((j ≡ p - 1) ⊎ (p - 1 < j)) → get m q ≡ None
      by j d in_j bare q w (inl lt) =
          (marked.bare j d (omega arith) (subst (λ (x : Stretch). IsTrue x.is_bare) (get_or-remove_below ss p d j (omega arith) in_range) (bare_at j d (λ e. absurd (omega arith)) bare))).absent q (before_it q j lt w)
      by j d in_j bare q w (inr (inl e)) =
          let is : IsTrue s.is_bare = subst (λ (x : Stretch). IsTrue x.is_bare) (ap (λ (n : ℕ). get_or (set (remove ss p) (p - 1) s) n d) e ∙ get_or-set_same (remove ss p) (p - 1) s d (omega (arith, rest_length))) bare in
          elim (was_in q (subst (λ (x : ℕ). IsIn (remove ss p) q x) e w) d) [
            | inl v ↦ (marked.bare (p - 1) d (omega arith) (left is d)).absent q v
            | inr v ↦ (marked.bare p d in_range (right is d)).absent q v
          ]
      by j d in_j bare q w (inr (inr gt)) =
          (marked.bare (j + 1) d in_j (subst (λ (x : Stretch). IsTrue x.is_bare) (get_or-remove_above ss p d j (omega arith) in_range) (bare_at j d (λ e. absurd (omega arith)) bare))).absent q (past_it q j (omega arith) w)

-- Where a key is --

module _ (ss : List Stretch) (r : IsRising ss) where
  -- a key is in one stretch
  pub one_home : (q i j : ℕ) → (d : Stretch) → IsIn ss q i → IsIn ss q j → i ≡ j
  one_home q i j d a b = elim (three i j) [
    | inl lt ↦ absurd (omega (arith, a.before_next d (omega (arith, b.in_range)), b.not_before d, no_later (i + 1) j d (omega arith) b.in_range))
    | inr (inl e) ↦ e
    | inr (inr gt) ↦ absurd (omega (arith, b.before_next d (omega (arith, a.in_range)), a.not_before d, no_later (j + 1) i d (omega arith) a.in_range))
  ]
    where
      no_later : (i j : ℕ) (d : Stretch) → i ≤ j → j < length ss → (get_or ss i d).from ≤ (get_or ss j d).from
      no_later i j d le in_j = elim (three i j) [
        | inl lt ↦ omega (arith, r.rises i j d lt in_j)
        | inr (inl e) ↦ rw e (omega arith)
        | inr (inr gt) ↦ absurd (omega arith)
      ]

  -- the first keys pass the test for k up to a place, and from there on they fail it
  pub parted : (k : ℕ) → IsPartitionedBy (λ (s : Stretch). nat_le s.from k) ss
  parted k i j d le in_j h = elim (three i j) [
    | inl lt ↦ grind (arith, nat_tests, r.rises i j d lt in_j, h)
    | inr (inl e) ↦ rw e h
    | inr (inr gt) ↦ absurd (omega arith)
  ]

  pub home_at : (k p : ℕ) → 0 < p → p ≤ length ss → IsPartitionPoint (λ (s : Stretch). nat_le s.from k ≡ true) (λ (s : Stretch). nat_le s.from k ≡ false) ss p → IsIn ss k (p - 1)
  home_at k p some fits point = record {
    in_range = omega arith;
    not_before = λ d. below d (point.0 (p - 1) d (omega arith) (omega arith));
    before_next = λ d lt. past d (point.1 (p - 1 + 1) d (omega arith) lt);
  }
    where
      below : (d : Stretch) → nat_le (get_or ss (p - 1) d).from k ≡ true → (get_or ss (p - 1) d).from ≤ k
      below d h = grind (arith, nat_tests)

      past : (d : Stretch) → nat_le (get_or ss (p - 1 + 1) d).from k ≡ false → k < (get_or ss (p - 1 + 1) d).from
      past d h = grind (arith, nat_tests)

  pub no_home : (k : ℕ) → IsPartitionPoint (λ (s : Stretch). nat_le s.from k ≡ true) (λ (s : Stretch). nat_le s.from k ≡ false) ss 0 → (i : ℕ) (d : Stretch) → i < length ss → k < (get_or ss i d).from
  no_home k point i d in_i = past (point.1 i d (omega arith) in_i)
    where
      past : nat_le (get_or ss i d).from k ≡ false → k < (get_or ss i d).from
      past h = grind (arith, nat_tests)

  -- where a stretch may begin at k, inside the one that k is in
  pub above_cut : (k i : ℕ) → IsIn ss k i → ((d : Stretch) → (get_or ss i d).from < k) → (j : ℕ) (d : Stretch) → j < i + 1 → (get_or ss j d).from < k
  above_cut k i w lower j d lt = elim (three j i) [
    | inl before ↦ omega (arith, r.rises j i d before w.in_range, lower d)
    | inr (inl e) ↦ rw e (lower d)
    | inr (inr gt) ↦ absurd (omega arith)
  ]

  pub below_cut : (k i : ℕ) → IsIn ss k i → (j : ℕ) (d : Stretch) → i + 1 ≤ j → j < length ss → k < (get_or ss j d).from
  below_cut k i w j d le in_j = elim (three (i + 1) j) [
    | inl before ↦ omega (arith, r.rises (i + 1) j d before in_j, w.before_next d (omega arith))
    | inr (inl e) ↦ subst (λ (n : ℕ). k < (get_or ss n d).from) e (w.before_next d (omega arith))
    | inr (inr gt) ↦ absurd (omega arith)
  ]

  -- a key of another stretch is another key
  pub elsewhere : (k i : ℕ) → IsIn ss k i → (q j : ℕ) → (j ≡ i → ⊥) → IsIn ss q j → (d : Stretch) → q ≡ k → ⊥
  elsewhere k i w q j differs v d e = differs (one_home k j i d (subst (λ (x : ℕ). IsIn ss x j) e v) w)

-- a key below all stretches is in none
pub below_all_set : (ss : List Stretch) (k v : ℕ) → ((i : ℕ) (d : Stretch) → i < length ss → k < (get_or ss i d).from) → (m : Map) → AreMarked ss m → AreMarked ss (map_set m k v)
below_all_set ss k v below m marked = record { bare = λ i d in_i bare. record { absent = λ q w. get-set_other m k v q (λ e. absurd (omega (arith, w.not_before d, below i d in_i))) ∙ (marked.bare i d in_i bare).absent q w } }

-- marks stay true where a key is taken away
pub marked_without : (ss : List Stretch) (m : Map) (k : ℕ) → AreMarked ss m → AreMarked ss (without m k)
marked_without ss m k marked = record { bare = λ i d in_i bare. record { absent = λ q w. get-without m k q ∙ by (k == q) ((marked.bare i d in_i bare).absent q w) } }
  where
    by : (b : Bool) {o : Option ℕ} → o ≡ None → cond b None o ≡ None
    by true e = refl
    by false e = e
