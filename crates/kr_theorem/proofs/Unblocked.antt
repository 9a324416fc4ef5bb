-- Attempts that nobody blocks, by the record of the locks alone.
use Rattle.std.specs.Prelude.{◌≡◌, ◌≤◌, ℕ, Bool, true, false, not, ◌&&◌, ◌||◌, ◌==◌, List, [], ◌∷◌, ◌++◌, Option, Some, None, filter, cond, unwrap_or, refl, ◌⊎◌}
use Rattle.std.specs.List.{list_any}
use Rattle.std.specs.Ordering.{eq_by_cmp, is_eq}
use Rattle.std.specs.Cmp.{tied_itself}
use Rattle.std.specs.FinMap.{find}
use Rattle.std.proofs.lemmas.Bool.Decides.{nat_tests}
use Rattle.std.proofs.Common.{sym, ap, ap₂, subst, arith, inl, inr}
use Rattle.kr_model.specs.declared.Name.{Name}
use Rattle.kr_model.specs.declared.Side.TheVariants.{Current, Next}
use Rattle.kr_model.specs.declared.Span.{Span}
use Rattle.kr_model.specs.Protocol.{Protocol, IsLawful, IsMode}
use Rattle.kr_model.specs.Covers.{conflicts_with}
use Rattle.kr_model.specs.Locks.{Locks, Holder, Request, AreWithin, holder_cmp, name_cmp, own, lockers, blockers, conflicts}
use Rattle.kr_model.specs.Plan.{Access, own_next, plan_by, requests}
use Rattle.kr_model.proofs.LockLaws.{name_total}
use Rattle.kr_model.proofs.Keep.{same, same_holder, kept_mode}
use Rattle.kr_model.proofs.Requests.{AskModes, request_at, asks_by}
use Rattle.kr_theorem.proofs.Recorded.{Tells, same_or_not, same_next}

-- A request that meets another's lock: the mode held, the requester's own mode, and what it asks for.
abbrev pub Meeting : Type 0
Meeting = ℕ × ℕ × Option (ℕ × Span)

-- None of them conflicts.
abbrev pub Passes : Protocol → List Meeting → Type 0
Passes p [] = Unit {0}
Passes p (m ∷ ms) = (conflicts_with p m.0 m.1 m.2 ≡ false) × Passes p ms

-- The locks of others that a request on n meets.
abbrev pub met_on : Locks → ℕ → Name → ℕ → Option (ℕ × Span) → List Meeting
met_on [] t n o a = []
met_on (l ∷ ls) t n o a = cond (eq_by_cmp name_cmp n l.0.0 && not (l.0.1 == t)) ((l.1, o, a) ∷ met_on ls t n o a) (met_on ls t n o a)

-- Those on a name, where there is one.
abbrev pub met_at : Locks → ℕ → Option Name → Option (ℕ × Span) → List Meeting
met_at xs t None a = []
met_at xs t (Some n) a = met_on xs t n (own xs t n) a

-- Those that an attempt meets.
abbrev pub met_by : Protocol → Locks → ℕ → Access → List Meeting
met_by p xs t a =
    let o = own_next xs t a.row a.next in
    met_at xs t a.current (p.ask a.row Current o) ++ met_at xs t a.next (p.ask a.row Next o)

pub passes_first : (p : Protocol) (xs ys : List Meeting) → Passes p (xs ++ ys) → Passes p xs
passes_first p [] ys h = tt
passes_first p (x ∷ xs) ys h = (h.0, passes_first p xs ys h.1)

pub passes_rest : (p : Protocol) (xs ys : List Meeting) → Passes p (xs ++ ys) → Passes p ys
passes_rest p [] ys h = h
passes_rest p (x ∷ xs) ys h = passes_rest p xs ys h.1

none_left : {A : Type 0} (f : A → Bool) (xs : List A) → ((x : A) → f x ≡ false) → filter f xs ≡ []
none_left f [] h = refl
none_left f (x ∷ xs) h = drop (f x) (h x) (none_left f xs h)
  where
    drop : (b : Bool) → b ≡ false → filter f xs ≡ [] → cond b (x ∷ filter f xs) (filter f xs) ≡ []
    drop true e rest = absurd (cc)
    drop false e rest = rest

any_append : {A : Type 0} (f : A → Bool) (xs ys : List A) → list_any f xs ≡ false → list_any f ys ≡ false → list_any f (xs ++ ys) ≡ false
any_append f [] ys h i = i
any_append f (x ∷ xs) ys h i = split (f x) (list_any f xs) h (λ g. any_append f xs ys g i)
  where
    split : (b c : Bool) → (b || c) ≡ false → (c ≡ false → list_any f (xs ++ ys) ≡ false) → (b || list_any f (xs ++ ys)) ≡ false
    split true c e rest = absurd (cc)
    split false c e rest = rest e

-- what is asked for conflicts with no lock that isn't there
pub beside_none : (p : Protocol) → IsLawful p → (n : Name) (o : ℕ) → o ≤ p.count → (a : Option (ℕ × Span)) → AskModes p (request_at (Some n) a) → conflicts_with p 0 o a ≡ false
beside_none p laws n o within None modes = refl
beside_none p laws n o within (Some (q, s)) modes =
    let i : IsMode p q = modes.0 in
    let m = kept_mode p o q laws within i.some i.in_range in
    ap not (laws.ok-none_held (p.convert o q) m.in_range)

untied : (u t : ℕ) → (u ≡ t → ⊥) → (u == t) ≡ false
untied u t d = grind (arith, nat_tests)

tied : (u t : ℕ) → u ≡ t → (u == t) ≡ true
tied u t e = grind (arith, nat_tests)

same_name : (n : Name) → eq_by_cmp name_cmp n n ≡ true
same_name n = ap is_eq (tied_itself name_total n)

asks_first : (p : Protocol) (xs ys : List Request) → AskModes p (xs ++ ys) → AskModes p xs
asks_first p [] ys h = tt
asks_first p (x ∷ xs) ys h = (h.0, asks_first p xs ys h.1)

asks_rest : (p : Protocol) (xs ys : List Request) → AskModes p (xs ++ ys) → AskModes p ys
asks_rest p [] ys h = h
asks_rest p (x ∷ xs) ys h = asks_rest p xs ys h.1

-- another's lock is met, and lets the request pass
passes_on : (p : Protocol) (ls : Locks) (t : ℕ) (n : Name) (o : ℕ) (a : Option (ℕ × Span)) → conflicts_with p 0 o a ≡ false → Passes p (met_on ls t n o a)
    → (u : ℕ) → (u ≡ t → ⊥) → conflicts_with p (own ls u n) o a ≡ false
passes_on p [] t n o a none pass u d = none
passes_on p (l ∷ ls) t n o a none pass u d = by (same (n, u) l.0) refl (passes_on p ls t n o a none (rest _ pass) u d)
  where
    rest : (b : Bool) → Passes p (cond b ((l.1, o, a) ∷ met_on ls t n o a) (met_on ls t n o a)) → Passes p (met_on ls t n o a)
    rest true h = h.1
    rest false h = h

    others : same (n, u) l.0 ≡ true → (eq_by_cmp name_cmp n l.0.0 && not (l.0.1 == t)) ≡ true
    others e = subst (λ (x : Holder). (eq_by_cmp name_cmp n x.0 && not (x.1 == t)) ≡ true) (same_holder (n, u) l.0 e)
        (ap₂ (λ b c. b && not c) (same_name n) (untied u t d))

    by : (b : Bool) → same (n, u) l.0 ≡ b → conflicts_with p (own ls u n) o a ≡ false → conflicts_with p (unwrap_or (cond b (Some l.1) (find holder_cmp (n, u) ls)) 0) o a ≡ false
    by true e later = first (subst (λ b. Passes p (cond b ((l.1, o, a) ∷ met_on ls t n o a) (met_on ls t n o a))) (others e) pass)
      where
        first : Passes p ((l.1, o, a) ∷ met_on ls t n o a) → conflicts_with p l.1 o a ≡ false
        first h = h.0
    by false e later = later

-- Nobody conflicts with what t asks for on a name, where there is one.
abbrev pub Free : Protocol → Locks → ℕ → Option Name → Option (ℕ × Span) → Type 0
Free p h t None a = Unit {0}
Free p h t (Some n) a = (u : ℕ) → (u ≡ t → ⊥) → conflicts_with p (own h u n) (own h t n) a ≡ false

free_at : (p : Protocol) → IsLawful p → (xs h : Locks) (t : ℕ) (n : Option Name) (a : Option (ℕ × Span)) → Tells xs h → AreWithin p.count h → AskModes p (request_at n a) → Passes p (met_at xs t n a) → Free p h t n a
free_at p laws xs h t None a tells within modes pass = tt
free_at p laws xs h t (Some n) a tells within modes pass = λ u d.
    subst (λ m. conflicts_with p m (own h t n) a ≡ false) (sym (tells u n))
    (subst (λ o. conflicts_with p (own xs u n) o a ≡ false) (sym (tells t n))
    (passes_on p xs t n (own xs t n) a (beside_none p laws n (own xs t n) (subst (λ o. o ≤ p.count) (tells t n) (within t n)) a modes) pass u d))

side_quiet : (p : Protocol) (h : Locks) (t : ℕ) (n : Option Name) (a : Option (ℕ × Span)) (u : ℕ) → Free p h t n a → list_any (λ r. conflicts p h t r u) (request_at n a) ≡ false
side_quiet p h t None a u free = refl
side_quiet p h t (Some n) None u free = refl
side_quiet p h t (Some n) (Some (q, s)) u free = by_txn (same_or_not u t)
  where
    own_quiet : (b c : Bool) → b ≡ true → ((not b && c) || false) ≡ false
    own_quiet true c e = refl
    own_quiet false c e = absurd (cc)

    other_quiet : (b c : Bool) → c ≡ false → ((b && c) || false) ≡ false
    other_quiet true false e = refl
    other_quiet false false e = refl
    other_quiet b true e = absurd (cc)

    by_txn : (u ≡ t) ⊎ (u ≡ t → ⊥) → list_any (λ r. conflicts p h t r u) ((n, q, s) ∷ []) ≡ false
    by_txn (inl e) = own_quiet (u == t) (not (p.ok (p.convert (own h t n) q) (own h u n))) (tied u t e)
    by_txn (inr d) = other_quiet (not (u == t)) (not (p.ok (p.convert (own h t n) q) (own h u n))) (free u d)

-- Nobody blocks an attempt that passes the locks that it meets.
pub unblocked : (p : Protocol) → IsLawful p → (xs h : Locks) (t : ℕ) (a : Access) → Tells xs h → AreWithin p.count h → Passes p (met_by p xs t a) → blockers p h t (requests (plan_by p h t a)) ≡ []
unblocked p laws xs h t a tells within pass =
    none_left (λ u. list_any (λ r. conflicts p h t r u) (first ++ second)) (lockers h) (λ u.
    any_append (λ r. conflicts p h t r u) first second
    (side_quiet p h t a.current asked_now u (free_at p laws xs h t a.current asked_now tells within (asks_first p first second modes) (passes_first p (met_at xs t a.current asked_now) (met_at xs t a.next asked_next) passes)))
    (side_quiet p h t a.next asked_next u (free_at p laws xs h t a.next asked_next tells within (asks_rest p first second modes) (passes_rest p (met_at xs t a.current asked_now) (met_at xs t a.next asked_next) passes))))
  where
    asked_now : Option (ℕ × Span)
    asked_now = p.ask a.row Current (own_next h t a.row a.next)

    asked_next : Option (ℕ × Span)
    asked_next = p.ask a.row Next (own_next h t a.row a.next)

    first : List Request
    first = request_at a.current asked_now

    second : List Request
    second = request_at a.next asked_next

    modes : AskModes p (first ++ second)
    modes = asks_by p laws h within t a

    passes : Passes p (met_at xs t a.current asked_now ++ met_at xs t a.next asked_next)
    passes = subst (λ v. Passes p (met_at xs t a.current (p.ask a.row Current v) ++ met_at xs t a.next (p.ask a.row Next v))) (sym (same_next xs h t a.row a.next tells)) pass
