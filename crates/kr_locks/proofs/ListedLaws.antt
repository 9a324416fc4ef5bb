-- All locks in a list: name by name, and put in order.
use Rattle.std.proofs.Common.{◌≡◌, ℕ, suc, ◌+◌, ◌<◌, ◌≤◌, length, get_or, Bool, true, false, cond, ◌&&◌, [], ◌∷◌, ◌++◌, Option, Some, None, sym, ap, ◌∙◌, refl, subst, arith}
use Rattle.std.specs.Prelude.{T, unwrap_or, nat_eq}
use Rattle.std.specs.List.{IsDistinct, AllByRecursion, sum_by}
use Rattle.std.specs.List.Sorted.{IsPermutation, IsSorted, IsSortedBy}
use Rattle.std.specs.Map.{lookup, keys_of}
use Rattle.std.specs.Option.{option_eq}
use Rattle.std.specs.Ordering.{nat_cmp, eq_by_cmp, is_eq, is_lt, ordering_then, ordering_reverse}
use Rattle.std.specs.declared.cmp.Ordering.{Ordering}
use Rattle.std.specs.declared.cmp.Ordering.TheVariants.{Less, Equal, Greater}
use Rattle.std.specs.FinMap.{find, is_sorted}
use Rattle.std.specs.FinMap.Entries.{below_all}
use Rattle.std.proofs.lemmas.List.Sorted.{IsPermutation-map, sum_by-IsPermutation, sorted_far, ranks_by}
use Rattle.std.proofs.lemmas.List.Sums.{sum_by-cons}
use Rattle.std.proofs.lemmas.Map.{lookup-none}
use Rattle.std.proofs.lemmas.Map.Entries.{none_past_head}
use Rattle.std.proofs.lemmas.Map.Keys.{IsDistinct-tail, IsDistinct-IsPermutation}
use Rattle.std.specs.Cmp.{eq_by_cmp_equiv}
use Rattle.kr_model.specs.declared.Name.{Name}
use Rattle.kr_model.specs.Locks.{Locks, Lock, Holder, name_cmp, holder_cmp}
use Rattle.kr_model.proofs.LockLaws.{holder_total, holder_exact}
use Rattle.kr_model.proofs.MapLaws.{t_of}
use Rattle.kr_model.proofs.Trees.{first, second}
use Rattle.kr_model.specs.contracts.NameOrd.TheImpl.{cmp-value}
use Rattle.kr_locks.specs.Buckets.{Holders, Names, IsNames, AreHolders, key_of, name_of, holders_at, locks_at, locks_of, listed}
use Rattle.kr_locks.proofs.NameLaws.{equal_of, same_key, option_eq_laws, same_locks, name_order}

-- What is found in the list --

or_else : Option ℕ → Option ℕ → Option ℕ
or_else None o = o
or_else (Some m) o = Some m

or_none : (o : Option ℕ) → or_else o None ≡ o
unfolding or_else
or_none None = refl
or_none (Some m) = refl

find-at : (n : Name) (hs : Holders) (ls : Locks) (q : Holder) → find holder_cmp q (locks_at n hs ++ ls) ≡ cond (eq_by_cmp name_cmp q.0 n) (or_else (find nat_cmp q.1 hs) (find holder_cmp q ls)) (find holder_cmp q ls)
unfolding or_else
find-at n [] ls q = by (eq_by_cmp name_cmp q.0 n)
  where
    by : (b : Bool) → find holder_cmp q ls ≡ cond b (find holder_cmp q ls) (find holder_cmp q ls)
    by true = refl
    by false = refl
find-at n (h ∷ hs) ls q =
    ap (cond (eq_by_cmp holder_cmp q (n, h.0)) (Some h.1)) (find-at n hs ls q)
    ∙ by (name_cmp q.0 n) (nat_cmp q.1 h.0)
  where
    by : (o p : Ordering) → cond (is_eq (ordering_then o p)) (Some h.1) (cond (is_eq o) (or_else (find nat_cmp q.1 hs) (find holder_cmp q ls)) (find holder_cmp q ls)) ≡ cond (is_eq o) (or_else (cond (is_eq p) (Some h.1) (find nat_cmp q.1 hs)) (find holder_cmp q ls)) (find holder_cmp q ls)
    by Less p = refl
    by Equal Less = refl
    by Equal Equal = refl
    by Equal Greater = refl
    by Greater p = refl

-- a name that comes first has no holders among the others
none_left : (e : Option ℕ × Holders) (es : Names) → IsNames (e ∷ es) → (n : Name) → option_eq nat_eq (key_of n) e.0 ≡ true → holders_at es n ≡ []
none_left e es s n t = ap (λ (o : Option Holders). unwrap_or o []) (lookup-none (option_eq nat_eq (key_of n)) es (none_past_head option_eq_laws (key_of n) e es s t))

find-listed : (es : Names) → IsNames es → (q : Holder) → find holder_cmp q (listed es) ≡ find nat_cmp q.1 (holders_at es q.0)
unfolding or_else
find-listed [] s q = refl
find-listed (e ∷ es) s q =
    find-at (name_of e.0) e.1 (listed es) q
    ∙ ap (λ r. cond (eq_by_cmp name_cmp q.0 (name_of e.0)) (or_else (find nat_cmp q.1 e.1) r) r) (find-listed es (IsDistinct-tail (option_eq nat_eq) e.0 (keys_of es) s) q)
    ∙ ap (λ b. cond b (or_else (find nat_cmp q.1 e.1) (find nat_cmp q.1 (holders_at es q.0))) (find nat_cmp q.1 (holders_at es q.0))) (same_key q.0 e.0)
    ∙ by (option_eq nat_eq (key_of q.0) e.0) refl
  where
    by : (b : Bool) → option_eq nat_eq (key_of q.0) e.0 ≡ b → cond b (or_else (find nat_cmp q.1 e.1) (find nat_cmp q.1 (holders_at es q.0))) (find nat_cmp q.1 (holders_at es q.0)) ≡ find nat_cmp q.1 (unwrap_or (cond b (Some e.1) (lookup (option_eq nat_eq (key_of q.0)) es)) [])
    by true t = ap (λ (hs : Holders). or_else (find nat_cmp q.1 e.1) (find nat_cmp q.1 hs)) (none_left e es s q.0 t) ∙ or_none (find nat_cmp q.1 e.1)
    by false t = refl

-- Its holders differ --

abbrev tied : Holder → Holder → Bool
tied = eq_by_cmp holder_cmp

apart : (q : Holder) (xs : Locks) → find holder_cmp q xs ≡ None → AllByRecursion (λ y. tied q y ≡ false) (keys_of xs)
apart q [] h = tt
apart q (x ∷ xs) h = by (tied q x.0) refl h (apart q xs)
  where
    by : (b : Bool) → tied q x.0 ≡ b → cond b (Some x.1) (find holder_cmp q xs) ≡ None → (find holder_cmp q xs ≡ None → AllByRecursion (λ y. tied q y ≡ false) (keys_of xs)) → (tied q x.0 ≡ false) × AllByRecursion (λ y. tied q y ≡ false) (keys_of xs)
    by true t h r = absurd (cc h)
    by false t h r = (t, r h)

not_there : (q : Holder) (xs : Locks) → AllByRecursion (λ y. tied q y ≡ false) (keys_of xs) → find holder_cmp q xs ≡ None
not_there q [] h = refl
not_there q (x ∷ xs) h = ap (λ b. cond b (Some x.1) (find holder_cmp q xs)) h.0 ∙ not_there q xs h.1

past : (t : ℕ) (hs : Holders) → T (below_all nat_cmp t hs) → find nat_cmp t hs ≡ None
past t [] b = refl
past t (h ∷ hs) b = by (nat_cmp t h.0) (first _ _ b) (past t hs (second _ _ b))
  where
    by : (o : Ordering) → T (is_lt o) → find nat_cmp t hs ≡ None → cond (is_eq o) (Some h.1) (find nat_cmp t hs) ≡ None
    by Less p r = r
    by Equal p r = absurd p
    by Greater p r = absurd p

neither : (b : Bool) → cond b (or_else None None) None ≡ None
unfolding or_else
neither true = refl
neither false = refl

distinct_at : (n : Name) (hs : Holders) (ls : Locks) → T (is_sorted nat_cmp hs) → ((t : ℕ) → find holder_cmp (n, t) ls ≡ None) → IsDistinct tied (keys_of ls) → IsDistinct tied (keys_of (locks_at n hs ++ ls))
unfolding IsDistinct
distinct_at n [] ls s none d = d
distinct_at n (h ∷ hs) ls s none d = (
  apart (n, h.0) (locks_at n hs ++ ls) (
      find-at n hs ls (n, h.0)
      ∙ ap (λ r. cond (eq_by_cmp name_cmp n n) (or_else (find nat_cmp h.0 hs) r) r) (none h.0)
      ∙ ap (λ f. cond (eq_by_cmp name_cmp n n) (or_else f None) None) (past h.0 hs (first _ _ s))
      ∙ neither (eq_by_cmp name_cmp n n)),
  distinct_at n hs ls (second _ _ s) none d,
)

key_name : (k : Option ℕ) → option_eq nat_eq (key_of (name_of k)) k ≡ true
key_name None = refl
key_name (Some k) = option_eq_laws.refl (Some k)

distinct : (es : Names) → IsNames es → AreHolders es → IsDistinct tied (keys_of (listed es))
unfolding IsDistinct
distinct [] s a = tt
distinct (e ∷ es) s a =
    let others = IsDistinct-tail (option_eq nat_eq) e.0 (keys_of es) s in
    distinct_at (name_of e.0) e.1 (listed es) (t_of (is_sorted nat_cmp e.1) a.0) (λ t. find-listed es others (name_of e.0, t) ∙ ap (find nat_cmp t) (none_left e es s (name_of e.0) (key_name e.0))) (distinct es others a.1)

-- In another order the same is found --

abbrev code : Option ℕ → ℕ
code None = 0
code (Some v) = suc v

same_code : (a b : Option ℕ) → code a ≡ code b → a ≡ b
same_code None None e = refl
same_code None (Some v) e = absurd (omega arith)
same_code (Some v) None e = absurd (omega arith)
same_code (Some v) (Some w) e = let same : v ≡ w = omega arith in ap (λ (x : ℕ). Some x) same

abbrev weight : Holder → Lock → ℕ
weight q x = cond (tied q x.0) (suc x.1) 0

weighed : (q : Holder) (xs : Locks) → IsDistinct tied (keys_of xs) → sum_by (weight q) xs ≡ code (find holder_cmp q xs)
unfolding IsDistinct
weighed q [] d = refl
weighed q (x ∷ xs) d = sum_by-cons (weight q) x xs ∙ ap (λ n. weight q x + n) (weighed q xs d.1) ∙ by (tied q x.0) refl (not_there x.0 xs d.0)
  where
    by : (b : Bool) → tied q x.0 ≡ b → find holder_cmp x.0 xs ≡ None → cond b (suc x.1) 0 + code (find holder_cmp q xs) ≡ code (cond b (Some x.1) (find holder_cmp q xs))
    by true t none =
        let itself : q ≡ x.0 = holder_exact q x.0 (equal_of (holder_cmp q x.0) t) in
        let gone : code (find holder_cmp q xs) ≡ 0 = ap code (ap (λ y. find holder_cmp y xs) itself ∙ none) in
        omega (arith, gone)
    by false t none = omega arith

find_permuted : (xs ys : Locks) → IsPermutation xs ys → IsDistinct tied (keys_of xs) → IsDistinct tied (keys_of ys) → (q : Holder) → find holder_cmp q ys ≡ find holder_cmp q xs
find_permuted xs ys p d e q = same_code (find holder_cmp q ys) (find holder_cmp q xs) (sym (weighed q ys e) ∙ sum_by-IsPermutation (weight q) xs ys p ∙ weighed q xs d)

-- A list that is put in order rises --

both : (a b : Bool) → T a → T b → T (a && b)
both true b p q = q
both false b p q = absurd p

later : (x : Holder) (xs : Locks) → AllByRecursion (λ y. is_lt (holder_cmp y x) ≡ false) (keys_of xs) → AllByRecursion (λ y. tied x y ≡ false) (keys_of xs) → T (below_all holder_cmp x xs)
later x [] up differ = tt
later x (y ∷ ys) up differ = both (is_lt (holder_cmp x y.0)) (below_all holder_cmp x ys) (by (holder_cmp y.0 x) (holder_total.antisymm x y.0) up.0 differ.0) (later x ys up.1 differ.1)
  where
    by : (o : Ordering) → holder_cmp x y.0 ≡ ordering_reverse o → is_lt o ≡ false → tied x y.0 ≡ false → T (is_lt (holder_cmp x y.0))
    by Less e f d = absurd (cc f)
    by Equal e f d = absurd (cc (ap is_eq e, d))
    by Greater e f d = subst (λ (o : Ordering). T (is_lt o)) (sym e) tt

all_at : (P : Holder → Type 0) (xs : Locks) → ((j : ℕ) (d : Lock) → j < length xs → P (get_or xs j d).0) → AllByRecursion P (keys_of xs)
all_at P [] h = tt
all_at P (x ∷ xs) h = (h 0 x (omega arith), all_at P xs (λ j d lt. h (suc j) d (omega arith)))

rises : (xs : Locks) → ((i j : ℕ) (d : Lock) → i ≤ j → j < length xs → is_lt (holder_cmp (get_or xs j d).0 (get_or xs i d).0) ≡ false) → IsDistinct tied (keys_of xs) → T (is_sorted holder_cmp xs)
unfolding IsDistinct
rises [] far d = tt
rises (x ∷ xs) far d =
    both (below_all holder_cmp x.0 xs) (is_sorted holder_cmp xs)
    (later x.0 xs (all_at (λ y. is_lt (holder_cmp y x.0) ≡ false) xs (λ j e lt. far 0 (suc j) e (omega arith) (omega arith))) d.0)
    (rises xs (λ i j e le lt. far (suc i) (suc j) e (omega arith) (omega arith)) d.1)

first_decides : (a b : Ordering) → is_lt (ordering_then a b) ≡ false → is_lt a ≡ false
first_decides Less b e = e
first_decides Equal b e = refl
first_decides Greater b e = refl

-- as the code compares locks
abbrev pub IsInCodeOrder : Locks → Type 0
IsInCodeOrder xs = IsSorted (λ (x y : Lock). ordering_then (ordering_then (cmp-value.it x.0.0 y.0.0) (nat_cmp x.0.1 y.0.1)) (nat_cmp x.1 y.1)) xs

-- All locks, listed name by name and put in order, are the locks.
pub put_in_order : (es : Names) (xs : Locks) → IsNames es → AreHolders es → IsPermutation (listed es) xs → IsInCodeOrder xs → xs ≡ locks_of es
put_in_order es xs s a p up =
    let differ = distinct es s a in
    let still = IsDistinct-IsPermutation tied (λ x y. (eq_by_cmp_equiv holder_total).symm x y) (keys_of (listed es)) (keys_of xs) (IsPermutation-map (λ (x : Lock). x.0) (listed es) xs p) differ in
    let ordered : IsSorted (λ (x y : Lock). ordering_then (holder_cmp x.0 y.0) (nat_cmp x.1 y.1)) xs = subst (λ (R : Name → Name → Ordering). IsSorted (λ (x y : Lock). ordering_then (ordering_then (R x.0.0 y.0.0) (nat_cmp x.0.1 y.0.1)) (nat_cmp x.1 y.1)) xs) name_order up in
    let by_holder : IsSortedBy (λ (x y : Lock). is_lt (holder_cmp x.0 y.0)) xs = λ k d low high. first_decides _ _ (ordered k d low high) in
    let far = sorted_far (λ (x y : Lock). is_lt (holder_cmp x.0 y.0)) (ranks_by holder_total (λ (x : Lock). x.0)) xs by_holder in
    sym (same_locks es xs s (rises xs far still) (λ q. sym (find-listed es s q) ∙ sym (find_permuted (listed es) xs p differ still q)))
