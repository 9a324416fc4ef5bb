-- Where the locks on a name stand in the sorted list, and what is known of their modes.
use Rattle.std.proofs.Common.{◌≡◌, ℕ, zero, suc, ◌+◌, ◌-◌, ◌<◌, ◌≤◌, Bool, true, false, cond, List, [], ◌∷◌, length, get_or, take, drop, filter, Option, Some, None, sym, ap, ◌∙◌, refl, subst, arith, ◌⊎◌, inl, inr}
use Rattle.std.specs.Prelude.{T, unwrap_or}
use mathlib.Core.Bool.{false≢true}
use Rattle.std.specs.declared.cmp.Ordering.{Ordering}
use Rattle.std.specs.declared.cmp.Ordering.TheVariants.{Less, Equal, Greater}
use Rattle.std.specs.Ordering.{nat_cmp, ordering_then, ordering_index, eq_by_cmp, is_eq, is_lt, is_le}
use Rattle.std.specs.List.Sorted.{IsPartitionedBy, IsPartitionPoint}
use Rattle.std.specs.Cmp.{tied_itself}
use Rattle.std.proofs.lemmas.List.{get_or_default}
use Rattle.std.specs.FinMap.{find, is_sorted}
use Rattle.std.specs.FinMap.Entries.{find-where_key, is_sorted-where_key}
use Rattle.kr_model.specs.declared.Name.{Name}
use Rattle.kr_model.specs.Locks.{Locks, Holder, IsLocks, AreWithin, name_cmp, holder_cmp}
use Rattle.kr_model.proofs.LockLaws.{name_total, holder_total, holder_exact}
use Rattle.kr_model.proofs.SortedSearch.{index_rises, sorted_at, find_place}
use Rattle.kr_locks.specs.List.{locks_on}

-- Between two places --

-- what passes a test, where all between two places pass and no other does
pub filter_between : {X : Type 0} (p : X → Bool) (xs : List X) (s n : ℕ) → s + n ≤ length xs → ((k : ℕ) (d : X) → k < s → p (get_or xs k d) ≡ false) → ((k : ℕ) (d : X) → s ≤ k → k < s + n → p (get_or xs k d) ≡ true) → ((k : ℕ) (d : X) → s + n ≤ k → k < length xs → p (get_or xs k d) ≡ false) → filter p xs ≡ take n (drop s xs)
filter_between p [] zero zero le before between behind = refl
filter_between p [] zero (suc n) le before between behind = absurd (omega arith)
filter_between p [] (suc s) n le before between behind = absurd (omega arith)
filter_between p (x ∷ xs) zero zero le before between behind =
    ap (λ b. cond b (x ∷ filter p xs) (filter p xs)) (behind 0 x (omega arith) (omega arith))
    ∙ filter_between p xs zero zero (omega arith) (λ k d lt. absurd (omega arith)) (λ k d ge lt. absurd (omega arith)) (λ k d ge lt. behind (suc k) d (omega arith) (omega arith))
filter_between p (x ∷ xs) zero (suc n) le before between behind =
    ap (λ b. cond b (x ∷ filter p xs) (filter p xs)) (between 0 x (omega arith) (omega arith))
    ∙ ap (λ l. x ∷ l) (filter_between p xs zero n (omega arith) (λ k d lt. absurd (omega arith)) (λ k d ge lt. between (suc k) d (omega arith) (omega arith)) (λ k d ge lt. behind (suc k) d (omega arith) (omega arith)))
filter_between p (x ∷ xs) (suc s) n le before between behind =
    ap (λ b. cond b (x ∷ filter p xs) (filter p xs)) (before 0 x (omega arith))
    ∙ filter_between p xs s n (omega arith) (λ k d lt. before (suc k) d (omega arith)) (λ k d ge lt. between (suc k) d (omega arith) (omega arith)) (λ k d ge lt. behind (suc k) d (omega arith) (omega arith))

-- The names rise --

first_at_most : (a b : Ordering) → ordering_then a b ≡ Less → (a ≡ Less) ⊎ (a ≡ Equal)
first_at_most Less b e = inl refl
first_at_most Equal b e = inr refl
first_at_most Greater b e = absurd (cc)

same_or_before : (i j : ℕ) → i ≤ j → (i ≡ j) ⊎ (i < j)
same_or_before i j le = grind arith

module _ (h : Locks) (s : IsLocks h) (n : Name) where
  sorted : T (is_sorted holder_cmp h)
  sorted = subst (λ b. T b) (sym s) tt

  names_rise : (i j : ℕ) (d : Holder × ℕ) → i ≤ j → j < length h → ordering_index (name_cmp (get_or h i d).0.0 n) ≤ ordering_index (name_cmp (get_or h j d).0.0 n)
  names_rise i j d le in_range = split (same_or_before i j le)
    where
      by : (name_cmp (get_or h i d).0.0 (get_or h j d).0.0 ≡ Less) ⊎ (name_cmp (get_or h i d).0.0 (get_or h j d).0.0 ≡ Equal) → ordering_index (name_cmp (get_or h i d).0.0 n) ≤ ordering_index (name_cmp (get_or h j d).0.0 n)
      by (inl e) = index_rises name_cmp name_total (get_or h i d).0.0 (get_or h j d).0.0 n e
      by (inr e) = rw (name_total.congr (get_or h i d).0.0 (get_or h j d).0.0 n e) (omega arith)

      split : (i ≡ j) ⊎ (i < j) → ordering_index (name_cmp (get_or h i d).0.0 n) ≤ ordering_index (name_cmp (get_or h j d).0.0 n)
      split (inl e) = rw e (omega arith)
      split (inr lt) = by (first_at_most (name_cmp (get_or h i d).0.0 (get_or h j d).0.0) (nat_cmp (get_or h i d).0.1 (get_or h j d).0.1) (sorted_at holder_cmp holder_total h i j d sorted lt in_range))

  lower_lt : (a b : Ordering) → ordering_index a ≤ ordering_index b → is_lt b ≡ true → is_lt a ≡ true
  lower_lt Less b le e = refl
  lower_lt Equal Less le e = absurd (omega arith)
  lower_lt Equal Equal le e = e
  lower_lt Equal Greater le e = e
  lower_lt Greater Less le e = absurd (omega arith)
  lower_lt Greater Equal le e = e
  lower_lt Greater Greater le e = e

  lower_le : (a b : Ordering) → ordering_index a ≤ ordering_index b → is_le b ≡ true → is_le a ≡ true
  lower_le Less b le e = refl
  lower_le Equal b le e = refl
  lower_le Greater Less le e = absurd (omega arith)
  lower_le Greater Equal le e = absurd (omega arith)
  lower_le Greater Greater le e = e

  -- the locks below a name stand first
  pub below_first : IsPartitionedBy (λ l. is_lt (name_cmp l.0.0 n)) h
  below_first i j d le in_range e = lower_lt (name_cmp (get_or h i d).0.0 n) (name_cmp (get_or h j d).0.0 n) (names_rise i j d le in_range) e

  -- then those on it
  pub not_above_first : IsPartitionedBy (λ l. is_le (name_cmp l.0.0 n)) h
  not_above_first i j d le in_range e = lower_le (name_cmp (get_or h i d).0.0 n) (name_cmp (get_or h j d).0.0 n) (names_rise i j d le in_range) e

-- The part --

-- where the locks on a name begin and end
pub record IsPart (h : Locks) (n : Name) (start end : ℕ) : Type 0 where
  pub starts : IsPartitionPoint (λ l. is_lt (name_cmp l.0.0 n) ≡ true) (λ l. is_lt (name_cmp l.0.0 n) ≡ false) h start
  pub ends : IsPartitionPoint (λ l. is_le (name_cmp l.0.0 n) ≡ true) (λ l. is_le (name_cmp l.0.0 n) ≡ false) h end
  pub start_in : start ≤ length h
  pub end_in : end ≤ length h

lt_le : (o : Ordering) → is_lt o ≡ true → is_le o ≡ false → ⊥
lt_le Less a b = false≢true (sym b)
lt_le Equal a b = false≢true a
lt_le Greater a b = false≢true a

lt_eq : (o : Ordering) → is_lt o ≡ true → is_eq o ≡ false
lt_eq Less e = refl
lt_eq Equal e = absurd (false≢true e)
lt_eq Greater e = refl

le_eq : (o : Ordering) → is_lt o ≡ false → is_le o ≡ true → is_eq o ≡ true
le_eq Less a b = absurd (false≢true (sym a))
le_eq Equal a b = refl
le_eq Greater a b = b

gt_eq : (o : Ordering) → is_le o ≡ false → is_eq o ≡ false
gt_eq Less e = absurd (false≢true (sym e))
gt_eq Equal e = absurd (false≢true (sym e))
gt_eq Greater e = refl

module _ (h : Locks) (n : Name) (start end : ℕ) (part : IsPart h n start end) where
  -- it begins at or before its end
  pub starts_before_end : start ≤ end
  starts_before_end = split (orders start end)
    where
      orders : (a b : ℕ) → (a ≤ b) ⊎ (b < a)
      orders a b = grind arith

      some : Holder × ℕ
      some = ((n, 0), 0)

      split : (start ≤ end) ⊎ (end < start) → start ≤ end
      split (inl le) = le
      split (inr gt) = let far = part.start_in in absurd (lt_le (name_cmp (get_or h end some).0.0 n) (part.starts.0 end some (omega arith) gt) (part.ends.1 end some (omega arith) (omega arith)))

  -- it is all the locks on the name
  pub part_is : take (end - start) (drop start h) ≡ locks_on h n
  part_is =
      let le = starts_before_end in
      let in_range = part.end_in in
      sym (filter_between (λ l. eq_by_cmp name_cmp l.0.0 n) h start (end - start) (omega arith)
      (λ k d lt. lt_eq (name_cmp (get_or h k d).0.0 n) (part.starts.0 k d (omega arith) lt))
      (λ k d ge lt. le_eq (name_cmp (get_or h k d).0.0 n) (part.starts.1 k d ge (omega arith)) (part.ends.0 k d (omega arith) (omega arith)))
      (λ k d ge lt. gt_eq (name_cmp (get_or h k d).0.0 n) (part.ends.1 k d (omega arith) lt)))

-- The modes --

-- a mode that is held on the name is at most the count
pub mode_within : (h : Locks) (n : Name) (count i : ℕ) (d : Holder × ℕ) → IsLocks h → AreWithin count h → i < length (locks_on h n) → (get_or (locks_on h n) i d).1 ≤ count
mode_within h n count i d s within lt =
    by (eq_by_cmp name_cmp q.0 n) (find holder_cmp q h) (sym found ∙ find-where_key holder_cmp on q alike h) (within q.1 q.0)
  where
    on : Holder → Bool
    on k = eq_by_cmp name_cmp k.0 n

    q : Holder
    q = let l = get_or (locks_on h n) i d in l.0

    alike : (x : Holder) → holder_cmp q x ≡ Equal → on x ≡ on q
    alike x e = ap on (sym (holder_exact q x e))

    found : find holder_cmp q (locks_on h n) ≡ Some (get_or (locks_on h n) i d).1
    found = find_place holder_cmp holder_total q (locks_on h n) i (is_sorted-where_key holder_cmp on h (subst (λ b. T b) (sym s) tt)) lt (λ e. ap (λ (l : Holder × ℕ). holder_cmp l.0 q) (get_or_default (locks_on h n) i e d lt) ∙ tied_itself holder_total q) d

    by : (b : Bool) (f : Option ℕ) → Some (get_or (locks_on h n) i d).1 ≡ cond b f None → unwrap_or f 0 ≤ count → (get_or (locks_on h n) i d).1 ≤ count
    by true f e le = let same : (get_or (locks_on h n) i d).1 ≡ unwrap_or f 0 = ap (λ o. unwrap_or o 0) e in rw same le
    by false f e le = absurd (cc)
