-- Parts that are copied one item after another.
use Rattle.std.specs.Prelude.{◌≡◌, ℕ, zero, suc, Bool, true, false, cond, List, [], ◌∷◌, ◌++◌, Option, Some, None, refl, T}
use Rattle.std.specs.declared.cmp.Ordering.{Ordering}
use Rattle.std.specs.declared.cmp.Ordering.TheVariants.{Less, Equal, Greater}
use Rattle.std.specs.Ordering.{is_eq, is_lt}
use Rattle.std.specs.FinMap.{find, is_sorted}
use Rattle.std.specs.FinMap.Entries.{below_all, same_entries}
use Rattle.std.proofs.Common.{sym, ◌∙◌, ap}
use Rattle.kr_model.specs.Locks.{Locks, Holder, IsLocks, HasNoNone, holder_cmp, add_once, keep_or_drop}
use Rattle.kr_model.proofs.Keep.{same, same_holder, same_itself, find-keep, is_zero, IsLocks-keep}
use Rattle.kr_model.proofs.LockLaws.{holder_total, holder_exact}
use Rattle.kr_model.proofs.Trees.{t_of, first, second}
use Rattle.kr_ghost_machine.specs.Endings.{with_each}

-- One that ends last.
pub with_last : (numbers ts : List ℕ) (t : ℕ) → with_each numbers (ts ++ t ∷ []) ≡ add_once t (with_each numbers ts)
with_last numbers [] t = refl
with_last numbers (x ∷ ts) t = with_last (add_once x numbers) ts t

-- Locks --

-- The locks after each of the list is kept, one after another.
abbrev pub all_kept : Locks → Locks → Locks
all_kept h [] = h
all_kept h (l ∷ ls) = all_kept (keep_or_drop h l.0.1 l.0.0 l.1) ls

abbrev or_else : Option ℕ → Option ℕ → Option ℕ
or_else (Some x) b = Some x
or_else None b = b

less_of : (o : Ordering) → T (is_lt o) → is_eq o ≡ false
less_of Less h = refl
less_of Equal h = absurd h
less_of Greater h = absurd h

below_not_found : (k : Holder) (ls : Locks) → T (below_all holder_cmp k ls) → find holder_cmp k ls ≡ None
below_not_found k [] h = refl
below_not_found k (l ∷ ls) h =
    ap (λ b. cond b (Some l.1) (find holder_cmp k ls)) (less_of (holder_cmp k l.0) (first (is_lt (holder_cmp k l.0)) (below_all holder_cmp k ls) h))
    ∙ below_not_found k ls (second (is_lt (holder_cmp k l.0)) (below_all holder_cmp k ls) h)

not_none : (l : Holder × ℕ) (ls : Locks) → HasNoNone (l ∷ ls) → is_zero l.1 ≡ false
not_none l ls none = by l.1 (λ is. none l.0 (ap (λ b. cond b (Some l.1) (find holder_cmp l.0 ls)) (same_itself l.0) ∙ ap (λ n. Some n) is))
  where
    by : (m : ℕ) → (m ≡ 0 → ⊥) → is_zero m ≡ false
    by zero out = absurd (out refl)
    by (suc m) out = refl

rest_not_none : (l : Holder × ℕ) (ls : Locks) → find holder_cmp l.0 ls ≡ None → HasNoNone (l ∷ ls) → HasNoNone ls
rest_not_none l ls apart none q is = by (same q l.0) refl
  where
    by : (b : Bool) → same q l.0 ≡ b → ⊥
    by true e = some_none (sym is ∙ ap (λ k. find holder_cmp k ls) (same_holder q l.0 e) ∙ apart)
      where
        some_none : ◌≡◌ {A = Option ℕ} (Some 0) None → ⊥
        some_none e = cc
    by false e = none q (ap (λ b. cond b (Some l.1) (find holder_cmp q ls)) e ∙ is)

found : (ls h : Locks) (q : Holder) → T (is_sorted holder_cmp ls) → HasNoNone ls → find holder_cmp q (all_kept h ls) ≡ or_else (find holder_cmp q ls) (find holder_cmp q h)
found [] h q rise none = refl
found (l ∷ ls) h q rise none =
    found ls (keep_or_drop h l.0.1 l.0.0 l.1) q (second (below_all holder_cmp l.0 ls) (is_sorted holder_cmp ls) rise) (rest_not_none l ls apart none)
    ∙ ap (or_else (find holder_cmp q ls)) (find-keep h l.0.1 l.0.0 l.1 q ∙ ap (λ z. cond (same q l.0) (cond z None (Some l.1)) (find holder_cmp q h)) (not_none l ls none))
    ∙ by (same q l.0) refl
  where
    apart : find holder_cmp l.0 ls ≡ None
    apart = below_not_found l.0 ls (first (below_all holder_cmp l.0 ls) (is_sorted holder_cmp ls) rise)

    by : (b : Bool) → same q l.0 ≡ b → or_else (find holder_cmp q ls) (cond b (Some l.1) (find holder_cmp q h)) ≡ or_else (cond b (Some l.1) (find holder_cmp q ls)) (find holder_cmp q h)
    by true e = ap (λ o. or_else o (Some l.1)) (ap (λ k. find holder_cmp k ls) (same_holder q l.0 e) ∙ apart)
    by false e = refl

kept_in_order : (ls h : Locks) → IsLocks h → IsLocks (all_kept h ls)
kept_in_order [] h rise = rise
kept_in_order (l ∷ ls) h rise = kept_in_order ls (keep_or_drop h l.0.1 l.0.0 l.1) (IsLocks-keep h l.0.1 l.0.0 l.1 rise)

-- Locks that are kept one after another are all kept.
pub all_kept_are : (ls : Locks) → IsLocks ls → HasNoNone ls → all_kept [] ls ≡ ls
all_kept_are ls rise none =
    same_entries holder_cmp holder_total holder_exact (all_kept [] ls) ls (t_of _ (kept_in_order ls [] refl)) (t_of _ rise) (λ q. found ls [] q (t_of _ rise) none ∙ by (find holder_cmp q ls))
  where
    by : (o : Option ℕ) → or_else o None ≡ o
    by (Some x) = refl
    by None = refl
