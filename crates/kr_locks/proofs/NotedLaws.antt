-- What notes of names are left, and which locks they cover.
use Rattle.std.proofs.Common.{◌≡◌, ℕ, zero, suc, Bool, true, false, cond, not, List, [], ◌∷◌, ◌++◌, Option, Some, None, sym, ap, ◌∙◌, refl, subst, arith}
use Rattle.std.specs.Prelude.{◌≢◌, ◌||◌, ◌==◌, Vec, unwrap_or, nat_eq}
use mathlib.Core.Bool.{false≢true}
use Rattle.std.specs.Global.{Global}
use Rattle.std.specs.HashMap as hash
use Rattle.std.specs.Ordering.{eq_by_cmp, is_eq}
use Rattle.std.specs.Cmp.{tied_itself}
use Rattle.std.specs.FinMap.{find}
use Rattle.std.specs.FinMap.Entries.{find-put}
use Rattle.std.proofs.lemmas.Bool.Decides.{nat_tests}
use Rattle.kr_model.specs.declared.Name.{Name}
use Rattle.kr_model.specs.Locks.{Locks, Holder, name_cmp, holder_cmp, own, keep, forget, release}
use Rattle.kr_model.proofs.LockLaws.{name_total, holder_total, find-release}
use Rattle.kr_model.proofs.Keep.{same, same_holder}
use Rattle.kr_locks.specs.Noted.{names_in, noted, IsNoted, AreNoted}
use Rattle.kr_locks.proofs.NameLaws.{find-forget}
use Rattle.kr_locks.proofs.BucketLaws.{is_in}

abbrev pub Held : Type 0 → Type 0
Held S = hash.HashMap ℕ (Vec Name Global) S

-- Lists of names --

pub in_longer : (n : Name) (xs ys : List Name) → is_in n xs ≡ true → is_in n (xs ++ ys) ≡ true
in_longer n [] ys h = absurd (false≢true h)
in_longer n (x ∷ xs) ys h = by (eq_by_cmp name_cmp n x) h (in_longer n xs ys)
  where
    by : (b : Bool) → (b || is_in n xs) ≡ true → (is_in n xs ≡ true → is_in n (xs ++ ys) ≡ true) → (b || is_in n (xs ++ ys)) ≡ true
    by true h r = refl
    by false h r = r h

pub in_last : (n : Name) (xs : List Name) → is_in n (xs ++ n ∷ []) ≡ true
in_last n [] = ap (λ o. is_eq o || false) (tied_itself name_total n)
in_last n (x ∷ xs) = by (eq_by_cmp name_cmp n x) (in_last n xs)
  where
    by : (b : Bool) → is_in n (xs ++ n ∷ []) ≡ true → (b || is_in n (xs ++ n ∷ [])) ≡ true
    by true r = refl
    by false r = r

-- Notes --

tied_number : (u t : ℕ) → nat_eq u t ≡ true → u ≡ t
tied_number u t e = grind (arith, nat_tests)

named : (b : Bool) (v : Option (Vec Name Global)) (o : Option (Vec Name Global)) → names_in (cond b v o) ≡ cond b (names_in v) (names_in o)
named true v o = refl
named false v o = refl

noted_by : {S : Type 0} → (m w : Held S) (t : ℕ) (v : Option (Vec Name Global)) → ((x : ℕ) → hash.get nat_eq w x ≡ cond (nat_eq t x) v (hash.get nat_eq m x)) → (u : ℕ) → noted w u ≡ cond (nat_eq t u) (names_in v) (noted m u)
noted_by m w t v is u = ap names_in (is u) ∙ named (nat_eq t u) v (hash.get nat_eq m u)

-- what was noted stays so where the transaction's list keeps its names
pub still_noted : {S : Type 0} → (m w : Held S) (t : ℕ) (v : Vec Name Global) → ((x : ℕ) → hash.get nat_eq w x ≡ cond (nat_eq t x) (Some v) (hash.get nat_eq m x)) → ((n : Name) → is_in n (noted m t) ≡ true → is_in n v.items ≡ true) → (u : ℕ) (n : Name) → IsNoted m u n → IsNoted w u n
still_noted m w t v is more u n h = subst (λ (l : List Name). is_in n l ≡ true) (sym (noted_by m w t (Some v) is u)) (by (nat_eq t u) refl)
  where
    by : (b : Bool) → nat_eq t u ≡ b → is_in n (cond b v.items (noted m u)) ≡ true
    by true e = more n (subst (λ (x : ℕ). is_in n (noted m x) ≡ true) (sym (tied_number t u e)) h)
    by false e = h

tied_same : (t : ℕ) → nat_eq t t ≡ true
tied_same t = grind (arith, nat_tests)

-- and the new name is noted
pub now_noted : {S : Type 0} → (m w : Held S) (t : ℕ) (v : Vec Name Global) → ((x : ℕ) → hash.get nat_eq w x ≡ cond (nat_eq t x) (Some v) (hash.get nat_eq m x)) → (n : Name) → is_in n v.items ≡ true → IsNoted w t n
now_noted m w t v is n h = subst (λ (l : List Name). is_in n l ≡ true) (sym (noted_by m w t (Some v) is t ∙ ap (λ b. cond b v.items (noted m t)) (tied_same t))) h

-- the others stay where a transaction's are taken out
pub others_noted : {S : Type 0} → (m w : Held S) (t : ℕ) → ((x : ℕ) → hash.get nat_eq w x ≡ cond (nat_eq t x) None (hash.get nat_eq m x)) → (u : ℕ) (n : Name) → u ≢ t → IsNoted m u n → IsNoted w u n
others_noted m w t is u n apart h = subst (λ (l : List Name). is_in n l ≡ true) (sym (noted_by m w t None is u)) (by (nat_eq t u) refl)
  where
    by : (b : Bool) → nat_eq t u ≡ b → is_in n (cond b [] (noted m u)) ≡ true
    by true e = absurd (apart (sym (tied_number t u e)))
    by false e = h

-- Locks and notes --

pub AreNoted-kept : {S : Type 0} → (m w : Held S) (h : Locks) → AreNoted m h → ((u : ℕ) (n : Name) → IsNoted m u n → IsNoted w u n) → AreNoted w h
AreNoted-kept m w h all keeps n u some = keeps u n (all n u some)

not_none : (b : Bool) (o : Option ℕ) → cond b None o ≢ None → o ≢ None
not_none true o some none = some refl
not_none false o some none = some none

pub AreNoted-forget : {S : Type 0} → (m : Held S) (h : Locks) (t : ℕ) (n : Name) → AreNoted m h → AreNoted m (forget h t n)
AreNoted-forget m h t n all x u some = all x u (not_none (same (x, u) (n, t)) (find holder_cmp (x, u) h) (λ none. some (find-forget h t n (x, u) ∙ none)))

pub AreNoted-release : {S : Type 0} → (m w : Held S) (h : Locks) (t : ℕ) → AreNoted m h → ((u : ℕ) (n : Name) → u ≢ t → IsNoted m u n → IsNoted w u n) → AreNoted w (release h t)
AreNoted-release m w h t all keeps n u some = by (u == t) refl
  where
    apart : (u == t) ≡ false → u ≢ t
    apart e = grind (arith, nat_tests)

    by : (b : Bool) → (u == t) ≡ b → IsNoted w u n
    by true e = absurd (some (find-release h t (n, u) ∙ ap (λ b. cond (not b) (find holder_cmp (n, u) h) None) e))
    by false e = keeps u n (apart e) (all n u (λ none. some (find-release h t (n, u) ∙ ap (λ b. cond (not b) (find holder_cmp (n, u) h) None) e ∙ none)))

pub AreNoted-keep : {S : Type 0} → (m : Held S) (h : Locks) (t : ℕ) (n : Name) (q : ℕ) → AreNoted m h → IsNoted m t n → AreNoted m (keep h t n q)
AreNoted-keep m h t n q all here x u some = by (same (x, u) (n, t)) refl
  where
    by : (b : Bool) → same (x, u) (n, t) ≡ b → IsNoted m u x
    by true e =
        let is : ◌≡◌ {A = Holder} (x, u) (n, t) = same_holder (x, u) (n, t) e in
        subst (λ (k : Holder). IsNoted m k.1 k.0) (sym is) here
    by false e = all x u (λ none. some (find-put holder_cmp holder_total (x, u) (n, t) q h ∙ ap (λ b. cond b (Some q) (find holder_cmp (x, u) h)) e ∙ none))

-- a name is noted where it was noted for a lock, or is noted now
pub noted_anyway : {S : Type 0} → (m w : Held S) (h : Locks) (t : ℕ) (n : Name) (was : ℕ) → AreNoted m h → ((u : ℕ) (x : Name) → IsNoted m u x → IsNoted w u x) → was ≡ own h t n → (was ≡ 0 → IsNoted w t n) → IsNoted w t n
noted_anyway m w h t n zero all keeps is first = first refl
noted_anyway m w h t n (suc k) all keeps is first = keeps t n (all n t (λ none.
    let e : suc k ≡ 0 = is ∙ ap (λ (o : Option ℕ). unwrap_or o 0) none in
    absurd (omega (arith, e))))
