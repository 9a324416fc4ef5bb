-- The active transactions of a list, by their numbers.
use Rattle.std.specs.Prelude.{◌≡◌, ℕ, suc, ◌<◌, Bool, true, false, ◌||◌, ◌==◌, cond, List, [], ◌∷◌, Option, Some, None, map, refl, T}
use Rattle.std.specs.Ordering.{nat_cmp, eq_by_cmp, is_lt}
use Rattle.std.specs.FinMap.{find, is_sorted}
use Rattle.std.specs.FinMap.Entries.{below_all}
use Rattle.std.proofs.Common.{sym, ◌∙◌, ap, ⊎_elim, ◌≢◌, arith, length, get_or}
use Rattle.std.proofs.lemmas.Bool.{cases_eq}
use Rattle.std.proofs.lemmas.Bool.Decides.{nat_tests}
use Rattle.kr_model.specs.declared.Name.{Name}
use Rattle.kr_model.specs.Locks.{Locks, own}
use Rattle.kr_model.specs.State.{Active}
use Rattle.kr_model.proofs.RisingNumbers.{has}
use Rattle.kr_model.proofs.Trees.{t_of, of_t, first, second}
use Rattle.kr_txn.specs.declared.Standing.{Standing}
use Rattle.kr_txn.specs.Standings.{IsInOrder, active_of, entries, number_of}

-- Their numbers.
abbrev pub numbers : List Standing → List ℕ
numbers xs = map number_of xs

same_test : (u k : ℕ) → eq_by_cmp nat_cmp u k ≡ (u == k)
same_test u k = grind (arith, nat_tests)

-- A number that isn't among them isn't found.
pub not_listed : (xs : List Standing) (u : ℕ) → has (numbers xs) u ≡ false → find nat_cmp u (entries xs) ≡ None
not_listed [] u out = refl
not_listed (x ∷ xs) u out = ap (λ b. cond b (Some (active_of x)) (find nat_cmp u (entries xs))) (same_test u x.txn) ∙ by (u == x.txn) out (not_listed xs u)
  where
    by : (b : Bool) → (b || has (numbers xs) u) ≡ false → (has (numbers xs) u ≡ false → find nat_cmp u (entries xs) ≡ None) → cond b (Some (active_of x)) (find nat_cmp u (entries xs)) ≡ None
    by true h more = absurd (cc)
    by false h more = more h

-- A number that is among them is found.
pub listed : (xs : List Standing) (u : ℕ) → has (numbers xs) u ≡ true → find nat_cmp u (entries xs) ≡ None → ⊥
listed [] u there out = cc
listed (x ∷ xs) u there out = by (u == x.txn) (same_test u x.txn) there (listed xs u)
  where
    by : (b : Bool) → eq_by_cmp nat_cmp u x.txn ≡ b → (b || has (numbers xs) u) ≡ true → (has (numbers xs) u ≡ true → find nat_cmp u (entries xs) ≡ None → ⊥) → ⊥
    by true e h more = some_none (sym (ap (λ b. cond b (Some (active_of x)) (find nat_cmp u (entries xs))) e) ∙ out)
      where
        some_none : ◌≡◌ {A = Option Active} (Some (active_of x)) None → ⊥
        some_none e = cc
    by false e h more = more h (sym (ap (λ b. cond b (Some (active_of x)) (find nat_cmp u (entries xs))) e) ∙ out)

-- Where none of them has a lock on a name, and who isn't among them holds none, nobody has.
pub nobody_locks : (h : Locks) (n : Name) (xs : List Standing) → ((j : ℕ) (d : Standing) → j < length xs → own h (number_of (get_or xs j d)) n ≡ 0) → (u : ℕ) → (find nat_cmp u (entries xs) ≡ None → own h u n ≡ 0) → own h u n ≡ 0
nobody_locks h n [] none u out = out refl
nobody_locks h n (x ∷ xs) none u out = ⊎_elim
    (λ is. ap (λ z. own h z n) is ∙ none 0 x (omega arith))
    (λ ne. nobody_locks h n xs (λ j d lt. none (suc j) d (omega arith)) u (λ more. out (ap (λ b. cond b (Some (active_of x)) (find nat_cmp u (entries xs))) (same_test u x.txn ∙ differ u x.txn ne) ∙ more)))
    (cases_eq u x.txn)
  where
    differ : (u k : ℕ) → u ≢ k → (u == k) ≡ false
    differ u k ne = grind (arith, nat_tests)

-- In a list that rises the first isn't found among the others.
pub first_apart : (x : Standing) (xs : List Standing) → IsInOrder (x ∷ xs) → find nat_cmp x.txn (entries xs) ≡ None
first_apart x xs order = below x.txn (entries xs) (first (below_all nat_cmp x.txn (entries xs)) (is_sorted nat_cmp (entries xs)) (t_of (is_sorted nat_cmp (entries (x ∷ xs))) order))
  where
    apart : (k u : ℕ) → T (is_lt (nat_cmp k u)) → eq_by_cmp nat_cmp k u ≡ false
    apart k u h = grind (arith, nat_tests)

    below : (k : ℕ) (es : List (ℕ × Active)) → T (below_all nat_cmp k es) → find nat_cmp k es ≡ None
    below k [] h = refl
    below k (e ∷ es) h =
        ap (λ b. cond b (Some e.1) (find nat_cmp k es)) (apart k e.0 (first (is_lt (nat_cmp k e.0)) (below_all nat_cmp k es) h))
        ∙ below k es (second (is_lt (nat_cmp k e.0)) (below_all nat_cmp k es) h)

-- And the others rise.
pub others_rise : (x : Standing) (xs : List Standing) → IsInOrder (x ∷ xs) → IsInOrder xs
others_rise x xs order = of_t (is_sorted nat_cmp (entries xs)) (second (below_all nat_cmp x.txn (entries xs)) (is_sorted nat_cmp (entries xs)) (t_of (is_sorted nat_cmp (entries (x ∷ xs))) order))
