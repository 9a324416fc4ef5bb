-- What a release takes away, who conflicts with a request, and the list of all locks.
use Rattle.std.proofs.Common.{◌≡◌, ℕ, ◌<◌, ◌≤◌, length, get_or, Bool, true, false, cond, not, List, [], ◌∷◌, Option, Some, None, sym, ap, ◌∙◌, refl, subst, arith, filter, map}
use Rattle.std.specs.Prelude.{T, unwrap_or, ◌&&◌, ◌||◌, ◌==◌, ◌≢◌}
use mathlib.Core.Bool.{false≢true}
use Rattle.std.specs.List.{list_any}
use Rattle.std.specs.declared.cmp.Ordering.{Ordering}
use Rattle.std.specs.declared.cmp.Ordering.TheVariants.{Less, Equal, Greater}
use Rattle.std.specs.Ordering.{nat_cmp, ordering_then, eq_by_cmp, is_eq, is_lt}
use Rattle.std.specs.Cmp.{nat_cmp_total, tied_itself}
use Rattle.std.specs.FinMap.{find, is_sorted}
use Rattle.std.specs.FinMap.Entries.{below_all, is_sorted-where_key, same_entries, find-where_key}
use Rattle.std.proofs.lemmas.Bool.Decides.{nat_tests}
use Rattle.std.proofs.lemmas.List.{get_or_default}
use Rattle.kr_model.specs.declared.Name.{Name}
use Rattle.kr_model.specs.declared.Span.TheVariants.{Commit}
use Rattle.kr_model.specs.Protocol.{Protocol, IsLawful}
use Rattle.kr_model.specs.Locks.{Locks, Holder, AreWithin, name_cmp, holder_cmp, own, forget, release, blockers}
use Rattle.kr_model.proofs.LockLaws.{name_total, name_exact, holder_total, holder_exact, find-release}
use Rattle.kr_model.proofs.Keep.{same}
use Rattle.kr_locks.specs.List.{locks_on, lock_conflicts}
use Rattle.kr_locks.specs.Buckets.{Holders, Names, IsHolders, IsNames, holders_at, locks_of, locks_at, holder_conflicts, forget_all}
use Rattle.kr_locks.proofs.HolderPlaces.{t_holders, mode_at}
use Rattle.kr_locks.proofs.Conflicts.{conflicting, conflicting_are, converted_within}
use Rattle.kr_locks.proofs.NameLaws.{find-locks_of, find-forget, sorted_locks, IsLocks-locks_of}

first : (a b : Bool) → T (a && b) → T a
first true b p = tt
first false b p = p

second : (a b : Bool) → T (a && b) → T b
second true b p = p
second false b p = absurd p

both : (a b : Bool) → T a → T b → T (a && b)
both true b p q = q
both false b p q = p

less_of : (o : Ordering) → T (is_lt o) → o ≡ Less
less_of Less h = refl
less_of Equal h = absurd h
less_of Greater h = absurd h

lt_of : (o : Ordering) → o ≡ Less → T (is_lt o)
lt_of Less h = tt
lt_of Equal h = absurd (cc)
lt_of Greater h = absurd (cc)

-- A release --

-- whether a name stands in the list
abbrev pub is_in : Name → List Name → Bool
is_in n ns = list_any (λ x. eq_by_cmp name_cmp n x) ns

find-forget_all : (t : ℕ) (ns : List Name) (h : Locks) (q : Holder) → find holder_cmp q (forget_all h t ns) ≡ cond (eq_by_cmp nat_cmp q.1 t && is_in q.0 ns) None (find holder_cmp q h)
find-forget_all t [] h q = by (eq_by_cmp nat_cmp q.1 t)
  where
    by : (b : Bool) → find holder_cmp q h ≡ cond (b && false) None (find holder_cmp q h)
    by true = refl
    by false = refl
find-forget_all t (n ∷ ns) h q =
    find-forget_all t ns (forget h t n) q
    ∙ ap (cond (eq_by_cmp nat_cmp q.1 t && is_in q.0 ns) None) (find-forget h t n q)
    ∙ by (name_cmp q.0 n) (eq_by_cmp nat_cmp q.1 t) refl (is_in q.0 ns)
  where
    by : (o : Ordering) (b : Bool) → eq_by_cmp nat_cmp q.1 t ≡ b → (c : Bool) → cond (b && c) None (cond (is_eq (ordering_then o (nat_cmp q.1 t))) None (find holder_cmp q h)) ≡ cond (b && (is_eq o || c)) None (find holder_cmp q h)
    by Less b e c = refl
    by Equal true e true = refl
    by Equal true e false = ap (λ x. cond x None (find holder_cmp q h)) e
    by Equal false e c = ap (λ x. cond x None (find holder_cmp q h)) e
    by Greater b e c = refl

sorted_forget : (h : Locks) (t : ℕ) (n : Name) → T (is_sorted holder_cmp h) → T (is_sorted holder_cmp (forget h t n))
sorted_forget h t n s = is_sorted-where_key holder_cmp (λ x. not (same (n, t) x)) h s

sorted_forget_all : (t : ℕ) (ns : List Name) (h : Locks) → T (is_sorted holder_cmp h) → T (is_sorted holder_cmp (forget_all h t ns))
sorted_forget_all t [] h s = s
sorted_forget_all t (n ∷ ns) h s = sorted_forget_all t ns (forget h t n) (sorted_forget h t n s)

some_none : (m : ℕ) → ◌≡◌ {A = Option ℕ} (Some m) None → ⊥
some_none m e = cc

same_number : (u t : ℕ) → (u == t) ≡ eq_by_cmp nat_cmp u t
same_number u t = grind (arith, nat_tests)

tied_number : (u t : ℕ) → eq_by_cmp nat_cmp u t ≡ true → u ≡ t
tied_number u t e = grind (arith, nat_tests)

-- where the list has each name on which t holds a lock, all its locks are taken away
pub all_forgotten : (es : Names) (t : ℕ) (ns : List Name) → ((n : Name) → find holder_cmp (n, t) (locks_of es) ≢ None → is_in n ns ≡ true) → forget_all (locks_of es) t ns ≡ release (locks_of es) t
all_forgotten es t ns noted = same_entries holder_cmp holder_total holder_exact (forget_all h t ns) (release h t) (sorted_forget_all t ns h (sorted_locks es)) (is_sorted-where_key holder_cmp (λ (x : Holder). not (x.1 == t)) h (sorted_locks es)) (λ q.
    find-forget_all t ns h q ∙ by q (eq_by_cmp nat_cmp q.1 t) refl (is_in q.0 ns) refl ∙ ap (λ b. cond (not b) (find holder_cmp q h) None) (sym (same_number q.1 t)) ∙ sym (find-release h t q))
  where
    h : Locks
    h = locks_of es

    unnoted : (o : Option ℕ) (b : Bool) → (o ≢ None → b ≡ true) → b ≡ false → o ≡ None
    unnoted None b f e = refl
    unnoted (Some m) b f e = absurd (false≢true (sym e ∙ f (λ k. some_none m k)))

    by : (q : Holder) (b : Bool) → eq_by_cmp nat_cmp q.1 t ≡ b → (c : Bool) → is_in q.0 ns ≡ c → cond (b && c) None (find holder_cmp q h) ≡ cond (not b) (find holder_cmp q h) None
    by q true e true f = refl
    by q true e false f = unnoted (find holder_cmp q h) (is_in q.0 ns) (λ some. noted q.0 (subst (λ (u : ℕ). find holder_cmp (q.0, u) h ≢ None) (tied_number q.1 t e) some)) f
    by q false e c f = refl

-- Requests --

below_at : (n : Name) (t : ℕ) (hs : Holders) → T (below_all nat_cmp t hs) → T (below_all holder_cmp (n, t) (locks_at n hs))
below_at n t [] b = tt
below_at n t (h ∷ hs) b = both _ _ (lt_of (holder_cmp (n, t) (n, h.0)) (ap (λ o. ordering_then o (nat_cmp t h.0)) (tied_itself name_total n) ∙ less_of (nat_cmp t h.0) (first _ _ b))) (below_at n t hs (second _ _ b))

sorted_at : (n : Name) (hs : Holders) → T (is_sorted nat_cmp hs) → T (is_sorted holder_cmp (locks_at n hs))
sorted_at n [] s = tt
sorted_at n (h ∷ hs) s = both _ _ (below_at n h.0 hs (first _ _ s)) (sorted_at n hs (second _ _ s))

find-at : (n : Name) (hs : Holders) (q : Holder) → find holder_cmp q (locks_at n hs) ≡ cond (eq_by_cmp name_cmp q.0 n) (find nat_cmp q.1 hs) None
find-at n [] q = by (eq_by_cmp name_cmp q.0 n)
  where
    by : (b : Bool) → ◌≡◌ {A = Option ℕ} None (cond b None None)
    by true = refl
    by false = refl
find-at n (h ∷ hs) q = ap (cond (eq_by_cmp holder_cmp q (n, h.0)) (Some h.1)) (find-at n hs q) ∙ by (name_cmp q.0 n) (nat_cmp q.1 h.0)
  where
    by : (o p : Ordering) → cond (is_eq (ordering_then o p)) (Some h.1) (cond (is_eq o) (find nat_cmp q.1 hs) None) ≡ cond (is_eq o) (cond (is_eq p) (Some h.1) (find nat_cmp q.1 hs)) None
    by Less p = refl
    by Equal p = refl
    by Greater p = refl

locks_on-at : (es : Names) → IsNames es → (n : Name) → IsHolders (holders_at es n) → locks_on (locks_of es) n ≡ locks_at n (holders_at es n)
locks_on-at es s n sh =
    same_entries holder_cmp holder_total holder_exact (locks_on (locks_of es) n) (locks_at n (holders_at es n)) (is_sorted-where_key holder_cmp on (locks_of es) (sorted_locks es)) (sorted_at n (holders_at es n) (t_holders (holders_at es n) sh)) (λ q.
    find-where_key holder_cmp on q (λ x e. ap on (sym (holder_exact q x e))) (locks_of es) ∙ by q (name_cmp q.0 n) refl)
  where
    on : Holder → Bool
    on k = eq_by_cmp name_cmp k.0 n

    by : (q : Holder) (o : Ordering) → name_cmp q.0 n ≡ o → cond (is_eq o) (find holder_cmp q (locks_of es)) None ≡ find holder_cmp q (locks_at n (holders_at es n))
    by q Less e = sym (find-at n (holders_at es n) q ∙ ap (λ r. cond (is_eq r) (find nat_cmp q.1 (holders_at es n)) None) e)
    by q Equal e =
        find-locks_of es s q.0 q.1 ∙ ap (λ (x : Name). find nat_cmp q.1 (holders_at es x)) (name_exact q.0 n e)
        ∙ sym (find-at n (holders_at es n) q ∙ ap (λ r. cond (is_eq r) (find nat_cmp q.1 (holders_at es n)) None) e)
    by q Greater e = sym (find-at n (holders_at es n) q ∙ ap (λ r. cond (is_eq r) (find nat_cmp q.1 (holders_at es n)) None) e)

conflicting_at : (p : Protocol) (t m : ℕ) (n : Name) (hs : Holders) → conflicting p t m (locks_at n hs) ≡ map (λ (h : ℕ × ℕ). h.0) (filter (holder_conflicts p t m) hs)
conflicting_at p t m n [] = refl
conflicting_at p t m n (h ∷ hs) = by (holder_conflicts p t m h) (conflicting_at p t m n hs)
  where
    by : (b : Bool) → conflicting p t m (locks_at n hs) ≡ map (λ (h : ℕ × ℕ). h.0) (filter (holder_conflicts p t m) hs) → map (λ (l : Holder × ℕ). l.0.1) (cond b (((n, h.0), h.1) ∷ filter (lock_conflicts p t m) (locks_at n hs)) (filter (lock_conflicts p t m) (locks_at n hs))) ≡ map (λ (h : ℕ × ℕ). h.0) (cond b (h ∷ filter (holder_conflicts p t m) hs) (filter (holder_conflicts p t m) hs))
    by true r = ap (λ (us : List ℕ). h.0 ∷ us) r
    by false r = r

-- a request for mode q of t on n, among the name's holders
pub record IsRequest (p : Protocol) (es : Names) (t : ℕ) (n : Name) (q : ℕ) (hs : Holders) : Type 0 where
  pub laws : IsLawful p
  pub names : IsNames es
  pub within : AreWithin p.count (locks_of es)
  pub few : q ≤ p.count
  pub holders : holders_at es n ≡ hs
  pub in_order : IsHolders hs

module _ (p : Protocol) (es : Names) (t : ℕ) (n : Name) (q : ℕ) (hs : Holders) (a : IsRequest p es t n q hs) where
  -- the own mode
  pub own_is : own (locks_of es) t n ≡ unwrap_or (find nat_cmp t hs) 0
  own_is = ap (λ o. unwrap_or o 0) (find-locks_of es a.names n t ∙ ap (find nat_cmp t) a.holders)

  own_within : unwrap_or (find nat_cmp t hs) 0 ≤ p.count
  own_within = subst (λ (x : ℕ). x ≤ p.count) own_is (a.within t n)

  -- the converted mode is at most the count
  pub mode_within : p.convert (unwrap_or (find nat_cmp t hs) 0) q ≤ p.count
  mode_within = converted_within p (unwrap_or (find nat_cmp t hs) 0) q a.laws own_within a.few

  pub held_within : unwrap_or (find nat_cmp t hs) 0 ≤ p.count
  held_within = own_within

  -- so is each held one
  pub all_within : (i : ℕ) (d : ℕ × ℕ) → i < length hs → (get_or hs i d).1 ≤ p.count
  all_within i d lt =
      let u : ℕ = (get_or hs i d).0 in
      subst (λ (x : ℕ). x ≤ p.count)
      (ap (λ o. unwrap_or o 0) (find-locks_of es a.names n u ∙ ap (find nat_cmp u) a.holders) ∙ sym (mode_at hs a.in_order u i (lt, λ e. ap (λ (h : ℕ × ℕ). nat_cmp h.0 u) (get_or_default hs i e d lt) ∙ tied_itself nat_cmp_total u) d))
      (a.within u n)

  -- those that conflict with it are its blockers
  pub holders_are : map (λ (h : ℕ × ℕ). h.0) (filter (holder_conflicts p t (p.convert (unwrap_or (find nat_cmp t hs) 0) q)) hs) ≡ blockers p (locks_of es) t ((n, q, Commit) ∷ [])
  holders_are =
      let m = p.convert (unwrap_or (find nat_cmp t hs) 0) q in
      sym (conflicting_at p t m n hs)
      ∙ ap (λ (x : Holders). conflicting p t m (locks_at n x)) (sym a.holders)
      ∙ ap (conflicting p t m) (sym (locks_on-at es a.names n (subst IsHolders (sym a.holders) a.in_order)))
      ∙ conflicting_are p (locks_of es) t n q Commit m a.laws (IsLocks-locks_of es) mode_within (ap (λ (x : ℕ). p.convert x q) (sym own_is))

  none_left : (us : Holders) → map (λ (h : ℕ × ℕ). h.0) us ≡ [] → us ≡ []
  none_left [] e = refl
  none_left (u ∷ us) e = absurd (cc)

  -- nobody conflicts with it exactly where it has no blockers
  pub free_is : (filter (holder_conflicts p t (p.convert (unwrap_or (find nat_cmp t hs) 0) q)) hs ≡ [] → blockers p (locks_of es) t ((n, q, Commit) ∷ []) ≡ []) × (blockers p (locks_of es) t ((n, q, Commit) ∷ []) ≡ [] → filter (holder_conflicts p t (p.convert (unwrap_or (find nat_cmp t hs) 0) q)) hs ≡ [])
  free_is = (λ e. sym holders_are ∙ ap (λ (us : Holders). map (λ (h : ℕ × ℕ). h.0) us) e, λ e. none_left (filter (holder_conflicts p t (p.convert (unwrap_or (find nat_cmp t hs) 0) q)) hs) (holders_are ∙ e))
