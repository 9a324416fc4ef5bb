-- What depends on the keys of an index alone.
use Rattle.std.proofs.Common.{◌≡◌, ℕ, suc, ◌<◌, Bool, true, false, cond, List, [], ◌∷◌, Some, None, is_some, refl, ap, sym, ◌∙◌, arith}
use Rattle.std.specs.Prelude.{nat_le, T, ◌&&◌}
use Rattle.std.specs.declared.cmp.Ordering.{Ordering}
use Rattle.std.specs.declared.cmp.Ordering.TheVariants.{Less, Equal, Greater}
use Rattle.std.specs.Ordering.{nat_cmp, eq_by_cmp, is_lt, is_eq}
use Rattle.std.specs.FinMap.{put, is_sorted}
use Rattle.std.specs.FinMap.Entries.{by_order, below_all}
use Rattle.std.proofs.lemmas.Bool.Decides.{nat_tests}
use Rattle.kr_model.specs.declared.Name.TheVariants.{Key}
use Rattle.kr_model.specs.declared.Row.TheVariants as row
use Rattle.kr_model.specs.declared.Step.{Step}
use Rattle.kr_model.specs.declared.Step.TheVariants as attempt
use Rattle.kr_model.specs.Map.{Map, IsMap, get, set, at}
use Rattle.kr_model.specs.Plan.{access, access_of}
use Rattle.kr_model.specs.State.{Scan}
use Rattle.kr_model.specs.Step.{name_after, name_to_look}
use Rattle.kr_model.proofs.MapLaws.{keys_apart, t_of}
use Rattle.kr_records.specs.Wakes.{keys_of}

abbrev head_of : ℕ → List ℕ → ℕ
head_of d [] = d
head_of d (x ∷ xs) = x

abbrev tail_of : List ℕ → List ℕ
tail_of [] = []
tail_of (x ∷ xs) = xs

-- Whether a key is present goes by the keys.
pub present_same : (m n : Map) (k : ℕ) → keys_of m ≡ keys_of n → is_some (get m k) ≡ is_some (get n k)
present_same [] [] k e = refl
present_same [] (y ∷ ys) k e = absurd (cc)
present_same (x ∷ xs) [] k e = absurd (cc)
present_same (x ∷ xs) (y ∷ ys) k e = by (eq_by_cmp nat_cmp k y.0) (ap (λ q. eq_by_cmp nat_cmp k q) (ap (head_of 0) e)) refl (present_same xs ys k (ap tail_of e))
  where
    by : (b : Bool) → eq_by_cmp nat_cmp k x.0 ≡ eq_by_cmp nat_cmp k y.0 → eq_by_cmp nat_cmp k y.0 ≡ b → is_some (get xs k) ≡ is_some (get ys k) → is_some (get (x ∷ xs) k) ≡ is_some (get (y ∷ ys) k)
    by true same is more = ap (λ b. is_some (cond b (Some x.1) (get xs k))) (same ∙ is) ∙ sym (ap (λ b. is_some (cond b (Some y.1) (get ys k))) is)
    by false same is more = ap (λ b. is_some (cond b (Some x.1) (get xs k))) (same ∙ is) ∙ more ∙ sym (ap (λ b. is_some (cond b (Some y.1) (get ys k))) is)

-- The name at a key goes by the keys.
pub at_same : (m n : Map) (c : ℕ) → keys_of m ≡ keys_of n → at m c ≡ at n c
at_same [] [] c e = refl
at_same [] (y ∷ ys) c e = absurd (cc)
at_same (x ∷ xs) [] c e = absurd (cc)
at_same (x ∷ xs) (y ∷ ys) c e =
    ap (λ q. cond (nat_le c q) (Key q) (at xs c)) (ap (head_of 0) e)
    ∙ ap (λ n. cond (nat_le c y.0) (Key y.0) n) (at_same xs ys c (ap tail_of e))

-- So do the row and the names of an attempt.
pub access_same : (m n : Map) (a : Step) → keys_of m ≡ keys_of n → access_of m a ≡ access_of n a
access_same m n (attempt.Fetch k) e =
    ap (λ b. cond b (access row.FetchHit (Some (Key k)) None) (access row.FetchMiss None (Some (at m k)))) (present_same m n k e)
    ∙ ap (λ x. cond (is_some (get n k)) (access row.FetchHit (Some (Key k)) None) (access row.FetchMiss None (Some x))) (at_same m n k e)
access_same m n (attempt.Insert k) e =
    ap (λ b. cond b (access row.FetchHit (Some (Key k)) None) (access row.Insert (Some (Key k)) (Some (at m k)))) (present_same m n k e)
    ∙ ap (λ x. cond (is_some (get n k)) (access row.FetchHit (Some (Key k)) None) (access row.Insert (Some (Key k)) (Some x))) (at_same m n k e)
access_same m n (attempt.Delete k) e =
    ap (λ b. cond b (access row.Delete (Some (Key k)) (Some (at m (suc k)))) (access row.FetchMiss None (Some (at m k)))) (present_same m n k e)
    ∙ ap (λ x. cond (is_some (get n k)) (access row.Delete (Some (Key k)) (Some x)) (access row.FetchMiss None (Some (at m k)))) (at_same m n (suc k) e)
    ∙ ap (λ x. cond (is_some (get n k)) (access row.Delete (Some (Key k)) (Some (at n (suc k)))) (access row.FetchMiss None (Some x))) (at_same m n k e)
access_same m n (attempt.Update k) e =
    ap (λ b. cond b (access row.Update (Some (Key k)) None) (access row.FetchMiss None (Some (at m k)))) (present_same m n k e)
    ∙ ap (λ x. cond (is_some (get n k)) (access row.Update (Some (Key k)) None) (access row.FetchMiss None (Some x))) (at_same m n k e)
access_same m n (attempt.Look x hi) e = refl

after_same : (m n : Map) (lo : ℕ) (rows : List (ℕ × ℕ)) → keys_of m ≡ keys_of n → name_after m lo rows ≡ name_after n lo rows
after_same m n lo [] e = at_same m n lo e
after_same m n lo (r ∷ []) e = at_same m n (suc r.0) e
after_same m n lo (r ∷ s ∷ rs) e = after_same m n lo (s ∷ rs) e

-- And the name that a scan looks at next.
pub look_same : (m n : Map) (c : Scan) → keys_of m ≡ keys_of n → name_to_look m c ≡ name_to_look n c
look_same m n c e = after_same m n c.lo c.rows e

-- Another value --

below : (a b : ℕ) → T (is_lt (nat_cmp a b)) → a < b
below a b h = grind (arith, nat_tests)

less : (a b : ℕ) → nat_cmp a b ≡ Less → a < b
less a b e = grind (arith, nat_tests)

apart : (a b : ℕ) → a < b → a ≡ b → ⊥
apart a b l e = omega arith

left : (a b : Bool) → T (a && b) → T a
left true b h = tt
left false b h = absurd h

right : (a b : Bool) → T (a && b) → T b
right true b h = h
right false b h = absurd h

missing : (k x : ℕ) (m : Map) → k < x → T (below_all nat_cmp x m) → get m k ≡ None
missing k x [] l b = refl
missing k x (e ∷ es) l b =
    let lt : x < e.0 = below x e.0 (left (is_lt (nat_cmp x e.0)) (below_all nat_cmp x es) b) in
    ap (λ c. cond c (Some e.1) (get es k)) (keys_apart k e.0 (apart k e.0 (omega arith))) ∙ missing k x es l (right (is_lt (nat_cmp x e.0)) (below_all nat_cmp x es) b)

keys_put : (m : Map) (k v w : ℕ) → T (is_sorted nat_cmp m) → get m k ≡ Some w → keys_of (put nat_cmp k v m) ≡ keys_of m
keys_put [] k v w s e = absurd (cc)
keys_put (x ∷ xs) k v w s e = by (nat_cmp k x.0) refl (λ f. keys_put xs k v w (right (below_all nat_cmp x.0 xs) (is_sorted nat_cmp xs) s) f)
  where
    by : (o : Ordering) → nat_cmp k x.0 ≡ o → (get xs k ≡ Some w → keys_of (put nat_cmp k v xs) ≡ keys_of xs) → keys_of (by_order o ((k, v) ∷ x ∷ xs) ((x.0, v) ∷ xs) (x ∷ put nat_cmp k v xs)) ≡ keys_of (x ∷ xs)
    by Less is more =
        let none : get xs k ≡ None = missing k x.0 xs (less k x.0 is) (left (below_all nat_cmp x.0 xs) (is_sorted nat_cmp xs) s) in
        let other : get (x ∷ xs) k ≡ None = ap (λ c. cond c (Some x.1) (get xs k)) (keys_apart k x.0 (apart k x.0 (less k x.0 is))) ∙ none in
        absurd (no_some (sym other ∙ e))
      where
        no_some : None ≡ Some w → ⊥
        no_some h = cc (h)
    by Equal is more = refl
    by Greater is more = ap (λ l. x.0 ∷ l) (more (ap (λ o. cond (is_eq o) (Some x.1) (get xs k)) (sym is) ∙ e))

-- A key that is present gets another value, and the keys stay.
pub keys_set : (m : Map) (k v w : ℕ) → IsMap m → get m k ≡ Some w → keys_of (set m k v) ≡ keys_of m
keys_set m k v w is e = keys_put m k v w (t_of (is_sorted nat_cmp m) is) e
