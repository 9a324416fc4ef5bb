-- Laws of the locks that are held.
use Rattle.std.specs.Prelude.{◌≡◌, ℕ, true, false, not, ◌==◌, cond, Some, None, refl, ◌⊎◌, unwrap_or}
use Rattle.std.specs.declared.cmp.Ordering.TheVariants.{Equal}
use Rattle.std.specs.Ordering.{nat_cmp, eq_by_cmp, is_eq}
use Rattle.std.specs.Cmp.{IsTotalOrder, nat_cmp_total, tied_itself}
use Rattle.std.proofs.lemmas.Bool.Decides.{nat_tests}
use Rattle.std.specs.FinMap.{find}
use Rattle.std.specs.FinMap.Entries.{find-put, find-where_key}
use Rattle.std.proofs.lemmas.Cmp.{on_total, then_total}
use Rattle.std.proofs.lemmas.Map.Lookups.{CmpEqualImpliesEq, exact_pairs, exact_unsigned}
use Rattle.std.proofs.Common.{sym, ◌∙◌, ap, arith, inl, inr}
use Rattle.kr_model.specs.declared.Name.{Name}
use Rattle.kr_model.specs.declared.Name.TheVariants.{Key, End}
use Rattle.kr_model.proofs.MapLaws.{equal_of_test, apart}
use Rattle.kr_model.specs.Locks.{Locks, Holder, name_rank, name_cmp, holder_cmp, own, keep, release}

-- names are in a total order
pub name_total : IsTotalOrder name_cmp
name_total = then_total (on_total (λ a. (name_rank a).0) nat_cmp_total) (on_total (λ a. (name_rank a).1) nat_cmp_total)

-- holders are in a total order
pub holder_total : IsTotalOrder holder_cmp
holder_total = then_total (on_total (λ (a : Holder). a.0) name_total) (on_total (λ (a : Holder). a.1) nat_cmp_total)

zero_not_one : ◌≡◌ {A = ℕ} 0 1 → ⊥
zero_not_one e = omega arith

name_of_rank : (a b : Name) → name_rank a ≡ name_rank b → a ≡ b
name_of_rank (Key a) (Key b) e = ap (λ (r : ℕ × ℕ). Key r.1) e
name_of_rank End End e = refl
name_of_rank (Key a) End e = absurd (zero_not_one (ap (λ (r : ℕ × ℕ). r.0) e))
name_of_rank End (Key b) e = absurd (zero_not_one (sym (ap (λ (r : ℕ × ℕ). r.0) e)))

-- names that tie are one name
pub name_exact : CmpEqualImpliesEq name_cmp
name_exact a b e = name_of_rank a b (exact_pairs nat_cmp nat_cmp exact_unsigned exact_unsigned (name_rank a) (name_rank b) e)

-- holders that tie are one holder
pub holder_exact : CmpEqualImpliesEq holder_cmp
holder_exact = exact_pairs name_cmp nat_cmp name_exact exact_unsigned

holders_apart : (n m : Name) (t u : ℕ) → (n ≡ m → t ≡ u → ⊥) → eq_by_cmp holder_cmp (n, t) (m, u) ≡ false
holders_apart n m t u h =
    apart (eq_by_cmp holder_cmp (n, t) (m, u)) (λ e.
    let same : ◌≡◌ {A = Holder} (n, t) (m, u) = holder_exact (n, t) (m, u) (equal_of_test (holder_cmp (n, t) (m, u)) e) in
    h (ap (λ (x : Holder). x.0) same) (ap (λ (x : Holder). x.1) same))

holder_tie : (n : Name) (t : ℕ) → eq_by_cmp holder_cmp (n, t) (n, t) ≡ true
holder_tie n t = ap is_eq (tied_itself holder_total (n, t))

-- the mode just kept
pub own-keep_same : (h : Locks) (t : ℕ) (n : Name) (m : ℕ) → own (keep h t n m) t n ≡ m
own-keep_same h t n m =
    ap (λ o. unwrap_or o 0) (find-put holder_cmp holder_total (n, t) (n, t) m h)
    ∙ ap (λ b. unwrap_or (cond b (Some m) (find holder_cmp (n, t) h)) 0) (holder_tie n t)

-- every other mode stays
pub own-keep_other : (h : Locks) (t : ℕ) (n : Name) (m u : ℕ) (x : Name) → (x ≡ n → u ≡ t → ⊥) → own (keep h t n m) u x ≡ own h u x
own-keep_other h t n m u x other =
    ap (λ o. unwrap_or o 0) (find-put holder_cmp holder_total (x, u) (n, t) m h)
    ∙ ap (λ b. unwrap_or (cond b (Some m) (find holder_cmp (x, u) h)) 0) (holders_apart x n u t other)

same_txn : (t : ℕ) (x y : Holder) → holder_cmp x y ≡ Equal → not (y.1 == t) ≡ not (x.1 == t)
same_txn t x y e = ap (λ (z : Holder). not (z.1 == t)) (sym (holder_exact x y e))

-- what a release leaves at each holder
pub find-release : (h : Locks) (t : ℕ) (x : Holder) → find holder_cmp x (release h t) ≡ cond (not (x.1 == t)) (find holder_cmp x h) None
find-release h t x = find-where_key holder_cmp (λ (y : Holder). not (y.1 == t)) x (λ y e. same_txn t x y e) h

untied : (u t : ℕ) → (u ≡ t → ⊥) → (u == t) ≡ false
untied u t h = grind (arith, nat_tests)

-- every other transaction holds what it held
pub own-release_other : (h : Locks) (t u : ℕ) (n : Name) → (u ≡ t → ⊥) → own (release h t) u n ≡ own h u n
own-release_other h t u n other =
    ap (λ o. unwrap_or o 0) (find-release h t (n, u))
    ∙ ap (λ b. unwrap_or (cond (not b) (find holder_cmp (n, u) h) None) 0) (untied u t other)

-- two names are the same, or not
pub name_or_not : (a b : Name) → (a ≡ b) ⊎ (a ≡ b → ⊥)
name_or_not (Key a) (Key b) = key_or_not a b
  where
    keys : (a b : ℕ) → (a ≡ b) ⊎ (a ≡ b → ⊥)
    keys a b = grind arith

    key_or_not : (a b : ℕ) → (Key a ≡ Key b) ⊎ (Key a ≡ Key b → ⊥)
    key_or_not a b = elim (keys a b) [ inl e ↦ inl (ap (λ x. Key x) e) | inr d ↦ inr (λ e. d (ap (λ n. let r = name_rank n in r.1) e)) ]
name_or_not End End = inl refl
name_or_not (Key a) End = inr (λ e. zero_not_one (ap (λ n. let r = name_rank n in r.0) e))
name_or_not End (Key b) = inr (λ e. zero_not_one (sym (ap (λ n. let r = name_rank n in r.0) e)))
