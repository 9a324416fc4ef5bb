-- What stands at a place of entries in order, and what an edit at that place does.
use Rattle.std.specs.Prelude.{T, not, ◌==◌}
use Rattle.std.specs.List.{insert, remove, HoldsAt}
use Rattle.std.specs.List.Sorted.{IsSearchInRange, IsBinarySearchResult, IsPartitionPoint}
use Rattle.std.specs.Ordering.{nat_cmp, eq_by_cmp}
use Rattle.std.specs.Cmp.{nat_cmp_total}
use Rattle.std.specs.FinMap.{find, put, is_sorted}
use Rattle.std.specs.FinMap.Entries.{where_key}
use Rattle.std.specs.declared.cmp.Ordering.TheVariants.{Less, Equal, Greater}
use Rattle.std.proofs.Common.{◌≡◌, ℕ, zero, suc, ◌+◌, ◌-◌, ◌<◌, ◌≤◌, length, get_or, set, take, drop, [], ◌∷◌, Option, Some, None, Result, Ok, Err, IfOk, IfErr, sym, ◌∙◌, ap, refl, arith}
use Rattle.std.proofs.lemmas.Cmp.{ranked}
use Rattle.std.proofs.lemmas.Bool.Decides.{nat_tests}
use Rattle.std.proofs.lemmas.Grind.{common_steps}
use Rattle.std.proofs.lemmas.List.Elements.{filter_agree}
use Rattle.kr_model.specs.Map.{Map, at, after}
use Rattle.kr_model.proofs.SortedSearch.{sorted_at, comparisons_rise, find_place, put_place, find_none, put_gap, without_place}
use Rattle.kr_index.specs.declared.slots.Slot.{Slot}
use Rattle.kr_index.specs.Slots.{Entries, pairs_of, with_value, least, IsAt, IsGapFor}

tests_agree : (x k : ℕ) → not (x == k) ≡ not (eq_by_cmp nat_cmp k x)
tests_agree x k = grind (arith, nat_tests)

-- a bisection by key ends at the key, or at the gap for it
pub searched : (es : Entries) → T (is_sorted nat_cmp es) → (k : ℕ) (r : Result ℕ ℕ) → IsSearchInRange r (length es) → IsBinarySearchResult (λ (e : ℕ × Slot). nat_cmp e.0 k) es r → record { found : IfOk r (IsAt es k); absent : IfErr r (IsGapFor es k) }
searched es sorted k (Ok i) in_range equal = record { found = record { in_range = in_range; has_key = λ d. ranked _ k _ (sym (equal d)) }; absent = tt }
searched es sorted k (Err i) in_range parted =
    let point = parted (comparisons_rise nat_cmp nat_cmp_total k es sorted) in
    record {
      found = tt;
      absent = record {
        in_range = in_range;
        smaller_before = λ j d lt. ranked _ k _ (sym (point.0 j d (omega arith) lt));
        greater_after = λ j d le lt. ranked _ k _ (sym (point.1 j d le lt));
      };
    }

at_first : (k : ℕ) (o : Option ℕ) (m : Map) (c : ℕ) → c ≤ k → at m c ≡ least m → at (with_value k o m) c ≡ least (with_value k o m)
at_first k None m c le rest = rest
at_first k (Some v) m c le rest = grind (arith, nat_tests)

at_past : (k : ℕ) (o : Option ℕ) (m : Map) (c : ℕ) → k < c → at (with_value k o m) c ≡ at m c
at_past k None m c lt = refl
at_past k (Some v) m c lt = grind (arith, nat_tests)

-- the name at c is the first from the place on that has the smaller keys before it
at_from : (es : Entries) (c i : ℕ) → ((j : ℕ) (d : ℕ × Slot) → j < i → (get_or es j d).0 < c) → ((j : ℕ) (d : ℕ × Slot) → i ≤ j → j < length es → c ≤ (get_or es j d).0) → at (pairs_of es) c ≡ least (pairs_of (drop i es))
at_from [] c zero below above = refl
at_from [] c (suc i) below above = refl
at_from (e ∷ es) c zero below above =
    at_first e.0 e.1.value (pairs_of es) c (above 0 e (omega arith) (omega arith)) (at_from es c 0 (λ j d lt. absurd (omega arith)) (λ j d le lt. above (suc j) d (omega arith) (omega arith)))
at_from (e ∷ es) c (suc i) below above =
    at_past e.0 e.1.value (pairs_of es) c (below 0 e (omega arith))
    ∙ at_from es c i (λ j d lt. below (suc j) d (omega arith)) (λ j d le lt. above (suc j) d (omega arith) (omega arith))

module _ (es : Entries) (sorted : T (is_sorted nat_cmp es)) (k i : ℕ) (is_at : IsAt es k i) where
  here : HoldsAt (λ (e : ℕ × Slot). nat_cmp e.0 k ≡ Equal) es i
  here d = grind (arith, nat_tests, is_at.has_key d)

  -- the slot at the place of k is the slot of k
  pub found_at : (d : ℕ × Slot) → find nat_cmp k es ≡ Some (get_or es i d).1
  found_at d = find_place nat_cmp nat_cmp_total k es i sorted is_at.in_range here d

  -- a slot written at the place of k is written at k
  pub written_at : (s : Slot) → set es i (k, s) ≡ put nat_cmp k s es
  written_at s =
      ap (λ (q : ℕ). set es i (q, s)) (sym (is_at.has_key (k, s))) ∙ sym (put_place nat_cmp nat_cmp_total k s es i sorted is_at.in_range here (k, s))

  -- the entry taken out at the place of k is the one of k
  pub removed_at : remove es i ≡ where_key nat_cmp (λ x. not (x == k)) es
  removed_at = sym (filter_agree _ _ (λ e. tests_agree e.0 k) es ∙ without_place nat_cmp nat_cmp_total k es i sorted is_at.in_range here)

  -- a later key is greater
  keys_rise : (a b : ℕ) (d : ℕ × Slot) → a < b → b < length es → (get_or es a d).0 < (get_or es b d).0
  keys_rise a b d lt in_range = ranked _ _ _ (sym (sorted_at nat_cmp nat_cmp_total es a b d sorted lt in_range))

  same_key : (j : ℕ) (d : ℕ × Slot) → i ≡ j → (get_or es j d).0 ≡ k
  same_key j d same = sym (ap (λ (n : ℕ). (get_or es n d).0) same) ∙ is_at.has_key d

  -- from the place of k on stands the name at k
  pub at_place : at (pairs_of es) k ≡ least (pairs_of (drop i es))
  at_place = at_from es k i (λ j d lt. grind (arith, keys_rise j i d, is_at.has_key d, is_at.in_range)) (λ j d le lt. grind (arith, keys_rise i j d, is_at.has_key d, same_key j d))

  -- past the place of k stands the name after k
  pub after_place : after (pairs_of es) k ≡ least (pairs_of (drop (i + 1) es))
  after_place = at_from es (suc k) (i + 1) (λ j d lt. grind (arith, keys_rise j i d, is_at.has_key d, is_at.in_range, same_key j d)) (λ j d le lt. grind (arith, keys_rise i j d, is_at.has_key d))

module _ (es : Entries) (k i : ℕ) (gap : IsGapFor es k i) where
  parted : IsPartitionPoint (λ (e : ℕ × Slot). nat_cmp e.0 k ≡ Less) (λ (e : ℕ × Slot). nat_cmp e.0 k ≡ Greater) es i
  parted = ((λ j d _ lt. grind (arith, nat_tests, gap.smaller_before j d lt)), (λ j d le lt. grind (arith, nat_tests, gap.greater_after j d le lt)))

  -- a key that has a gap has no slot
  pub absent_at_gap : T (is_sorted nat_cmp es) → find nat_cmp k es ≡ None
  absent_at_gap sorted = find_none nat_cmp nat_cmp_total k es i sorted gap.in_range parted

  -- a slot put into the gap for k is written at k
  pub added_at_gap : (s : Slot) → insert es i (k, s) ≡ put nat_cmp k s es
  added_at_gap s = sym (put_gap nat_cmp nat_cmp_total k s es i gap.in_range parted)

  -- from the gap for k on stands the name at k
  pub at_gap : at (pairs_of es) k ≡ least (pairs_of (drop i es))
  at_gap = at_from es k i gap.smaller_before (λ j d le lt. omega (arith, gap.greater_after j d le lt))

  -- and the name after k
  pub after_gap : after (pairs_of es) k ≡ least (pairs_of (drop i es))
  after_gap = at_from es (suc k) i (λ j d lt. omega (arith, gap.smaller_before j d lt)) (λ j d le lt. omega (arith, gap.greater_after j d le lt))

-- a slice from a place on is what is left there
pub slice_from : (es : Entries) (i : ℕ) → take (length es - i) (drop i es) ≡ drop i es
slice_from es i = grind (arith, common_steps)
