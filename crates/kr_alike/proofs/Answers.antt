-- The two tables block the same requests, and name the same blockers.
use Rattle.std.proofs.Common.{ℕ, ◌≡◌, ◌⊎◌, inl, inr, refl, sym, ap, ◌∙◌, subst, Bool, true, false, List, [], ◌∷◌}
use Rattle.std.specs.Prelude.{not, ◌&&◌, ◌||◌, ◌==◌, Option, Some, None}
use Rattle.std.specs.List.{list_any}
use Rattle.std.proofs.lemmas.List.Folds.{list_any-append}
use Rattle.kr_model.specs.declared.Name.{Name}
use Rattle.kr_model.specs.declared.Row.{Row}
use Rattle.kr_model.specs.declared.Row.TheVariants as row
use Rattle.kr_model.specs.declared.Side.{Side}
use Rattle.kr_model.specs.declared.Side.TheVariants.{Current, Next}
use Rattle.kr_model.specs.declared.Span.{Span}
use Rattle.kr_model.specs.Protocol.{Protocol, IsLawful}
use Rattle.kr_model.specs.Covers.{mode_after, conflicts_with}
use Rattle.kr_model.specs.Locks.{Locks, Request, own, kept, lockers, conflicts, blockers, AreWithin}
use Rattle.kr_model.specs.Plan.{Access, own_next, plan_by, requests}
use Rattle.kr_model.proofs.Actives.{tied, untied}
use Rattle.kr_model.proofs.Keep.{kept_mode}
use Rattle.kr_model.proofs.Numbers.{lockers_rise}
use Rattle.kr_model.proofs.Requests.{request_at, AskModes, asks_by}
use Rattle.kr_model.proofs.RisingNumbers.{has, has-filter, has-lockers, rising_filter, same_rising}
use Rattle.kr_theorem.proofs.safe.Kept.{kept_append, elsewhere}
use Rattle.kr_alike.specs.declared.modes.Modes.{Modes}
use Rattle.kr_alike.specs.Closed.{none, given, asked, is_blocked, IsClosedFor}
use Rattle.kr_alike.proofs.Held.{same_or_not, modes, AreIn, alone, within_first, within_second, kept_at}

-- The blockers are those that some request conflicts with --

-- Whether u conflicts with one of the requests.
abbrev pub blocks : Protocol → Locks → ℕ → List Request → ℕ → Bool
blocks p h t rs u = list_any (λ r. conflicts p h t r u) rs

-- Who holds nothing conflicts with none.
free_blocks : (p : Protocol) → IsLawful p → (h : Locks) → AreWithin p.count h → (t u : ℕ) → ((n : Name) → own h u n ≡ 0) → (rs : List Request) → AskModes p rs → blocks p h t rs u ≡ false
free_blocks p laws h within t u free [] asked = refl
free_blocks p laws h within t u free (r ∷ rs) asked =
    let w : ℕ = p.convert (own h t r.0) r.1 in
    let is = kept_mode p (own h t r.0) r.1 laws (within t r.0) asked.0.some asked.0.in_range in
    let ok : p.ok w (own h u r.0) ≡ true = ap (λ o. p.ok w o) (free r.0) ∙ laws.ok-none_held w is.in_range in
    ap (λ b. (not (u == t) && not b) || blocks p h t rs u) ok ∙ no (u == t) (blocks p h t rs u) ∙ free_blocks p laws h within t u free rs asked.1
  where
    no : (a b : Bool) → ((not a && false) || b) ≡ b
    no true b = refl
    no false b = refl

has-blockers : (p : Protocol) → IsLawful p → (h : Locks) → AreWithin p.count h → (t : ℕ) (rs : List Request) → AskModes p rs → (u : ℕ) → has (blockers p h t rs) u ≡ blocks p h t rs u
has-blockers p laws h within t rs asked u = has-filter (blocks p h t rs) (lockers h) u ∙ by (has (lockers h) u) refl
  where
    free : has (lockers h) u ≡ false → (n : Name) → own h u n ≡ 0
    free e n = elim (same_or_not (own h u n) 0) [ inl z ↦ z | inr some ↦ absurd (no (has (lockers h) u) e (has-lockers h u n some)) ]
      where
        no : (b : Bool) → b ≡ false → b ≡ true → ⊥
        no b f g = cc

    by : (b : Bool) → has (lockers h) u ≡ b → (b && blocks p h t rs u) ≡ blocks p h t rs u
    by true e = refl
    by false e = sym (free_blocks p laws h within t u (free e) rs asked)

-- One request --

-- Where another transaction asks on a name, it is blocked by the mode held there.
blocks_at : (p : Protocol) (h : Locks) (t u : ℕ) (n : Name) (a : Option (ℕ × Span)) → (u ≡ t → ⊥) → blocks p h t (request_at (Some n) a) u ≡ conflicts_with p (own h u n) (own h t n) a
blocks_at p h t u n None ne = refl
blocks_at p h t u n (Some (q, s)) ne = ap (λ b. (not b && not (p.ok (p.convert (own h t n) q) (own h u n))) || false) (untied u t ne) ∙ or_false (not (p.ok (p.convert (own h t n) q) (own h u n)))
  where
    or_false : (b : Bool) → (b || false) ≡ b
    or_false true = refl
    or_false false = refl

-- Nobody blocks itself.
blocks_self : (p : Protocol) (h : Locks) (t : ℕ) (rs : List Request) → blocks p h t rs t ≡ false
blocks_self p h t [] = refl
blocks_self p h t (r ∷ rs) = ap (λ b. (not b && not (p.ok (p.convert (own h t r.0) r.1) (own h t r.0))) || blocks p h t rs t) (tied t) ∙ blocks_self p h t rs

or_both : (a b : Bool) → (a || b) ≡ false → (a ≡ false) × (b ≡ false)
or_both true b e = absurd (cc)
or_both false b e = (refl, e)

-- The own mode that a row hands to its request.
given_current : (h : Locks) (t : ℕ) (r : Row) (x : ℕ) (n : Name) → own_next h t r (Some n) ≡ given r Current x (own h t n)
given_current h t row.FetchHit x n = refl
given_current h t row.FetchMiss x n = refl
given_current h t row.ScanKey x n = refl
given_current h t row.ScanStop x n = refl
given_current h t row.Insert x n = refl
given_current h t row.Delete x n = refl
given_current h t row.Update x n = refl

given_none : (h : Locks) (t : ℕ) (r : Row) (x : ℕ) → own_next h t r None ≡ given r Current x 0
given_none h t row.FetchHit x = refl
given_none h t row.FetchMiss x = refl
given_none h t row.ScanKey x = refl
given_none h t row.ScanStop x = refl
given_none h t row.Insert x = refl
given_none h t row.Delete x = refl
given_none h t row.Update x = refl

given_next : (h : Locks) (t : ℕ) (r : Row) (n : Name) (x : ℕ) → own_next h t r (Some n) ≡ given r Next (own h t n) x
given_next h t row.FetchHit n x = refl
given_next h t row.FetchMiss n x = refl
given_next h t row.ScanKey n x = refl
given_next h t row.ScanStop n x = refl
given_next h t row.Insert n x = refl
given_next h t row.Delete n x = refl
given_next h t row.Update n x = refl

-- What comes --

-- The own mode on the next name, where there is one.
abbrev pub held_next : Locks → ℕ → Option Name → ℕ
held_next l t None = 0
held_next l t (Some n) = own l t n

-- The requests of an attempt of t may come beside u, but for that on the current name where u blocks the other.
pub record MayCome (p : Protocol) (May : Row → Side → ℕ → ℕ → ℕ → Type 0) (l : Locks) (t : ℕ) (a : Access) (u : ℕ) : Type 0 where
  pub next : (n : Name) → a.next ≡ Some n → May a.row Next (own l t n) 0 (own l u n)
  pub current : ((n : Name) → a.current ≡ Some n → May a.row Current (own l t n) (held_next l t a.next) (own l u n))
      ⊎ ((n : Name) × (a.next ≡ Some n) × (is_blocked p a.row Next (own l t n) 0 (own l u n) ≡ true))

-- An attempt --

module _ (p q : Protocol) (lawful : IsLawful p) (lawful_too : IsLawful q) (May : Row → Side → ℕ → ℕ → ℕ → Type 0) (R : Modes → Modes → Type 0) (closed : IsClosedFor p q May R) (l k : Locks) (are : AreIn R (modes l k)) (t : ℕ) (a : Access)
    (comes : (u : ℕ) → (u ≡ t → ⊥) → MayCome p May l t a u) where
  abbrev o1 : ℕ
  o1 = own_next l t a.row a.next

  abbrev o2 : ℕ
  o2 = own_next k t a.row a.next

  -- What it asks at a side, under each table.
  abbrev ask1 : Side → Option (ℕ × Span)
  ask1 s = p.ask a.row s o1

  abbrev ask2 : Side → Option (ℕ × Span)
  ask2 s = q.ask a.row s o2

  -- The two requests at a side are those that the closed set speaks of.
  record IsMove (s : Side) (n : Name) (first : ℕ) : Type 0 where
    next : Modes
    is_first : next.first ≡ first
    reached : R next none
    asks1 : ask1 s ≡ asked p a.row s (own l t n) next.first
    asks2 : ask2 s ≡ asked q a.row s (own k t n) next.second

  current_move : (n : Name) → IsMove Current n (held_next l t a.next)
  current_move n = by a.next refl
    where
      by : (x : Option Name) → a.next ≡ x → IsMove Current n (held_next l t a.next)
      by None e = record {
        next = none;
        is_first = sym (ap (held_next l t) e);
        reached = closed.start;
        asks1 = ap (λ y. p.ask a.row Current (own_next l t a.row y)) e ∙ ap (λ o. p.ask a.row Current o) (given_none l t a.row (own l t n));
        asks2 = ap (λ y. q.ask a.row Current (own_next k t a.row y)) e ∙ ap (λ o. q.ask a.row Current o) (given_none k t a.row (own k t n));
      }
      by (Some x) e = record {
        next = modes l k t x;
        is_first = sym (ap (held_next l t) e);
        reached = alone p q May R closed l k are t x;
        asks1 = ap (λ y. p.ask a.row Current (own_next l t a.row y)) e ∙ ap (λ o. p.ask a.row Current o) (given_current l t a.row (own l t n) x);
        asks2 = ap (λ y. q.ask a.row Current (own_next k t a.row y)) e ∙ ap (λ o. q.ask a.row Current o) (given_current k t a.row (own k t n) x);
      }

  next_move : (n : Name) → a.next ≡ Some n → IsMove Next n 0
  next_move n e = record {
    next = none;
    is_first = refl;
    reached = closed.start;
    asks1 = ap (λ y. p.ask a.row Next (own_next l t a.row y)) e ∙ ap (λ o. p.ask a.row Next o) (given_next l t a.row n 0);
    asks2 = ap (λ y. q.ask a.row Next (own_next k t a.row y)) e ∙ ap (λ o. q.ask a.row Next o) (given_next k t a.row n 0);
  }

  -- Another blocks a side under both tables or under neither.
  blocked1 : (s : Side) (n : Name) (f : ℕ) (i : IsMove s n f) (u : ℕ) → (u ≡ t → ⊥) → blocks p l t (request_at (Some n) (ask1 s)) u ≡ is_blocked p a.row s (own l t n) i.next.first (own l u n)
  blocked1 s n f i u ne = blocks_at p l t u n (ask1 s) ne ∙ ap (λ x. conflicts_with p (own l u n) (own l t n) x) i.asks1

  blocked2 : (s : Side) (n : Name) (f : ℕ) (i : IsMove s n f) (u : ℕ) → (u ≡ t → ⊥) → blocks q k t (request_at (Some n) (ask2 s)) u ≡ is_blocked q a.row s (own k t n) i.next.second (own k u n)
  blocked2 s n f i u ne = blocks_at q k t u n (ask2 s) ne ∙ ap (λ x. conflicts_with q (own k u n) (own k t n) x) i.asks2

  -- May a request come that goes by the own mode f on the next name, it comes by the modes there.
  by_next : (s : Side) (n : Name) (f : ℕ) (i : IsMove s n f) (u : ℕ) → May a.row s (own l t n) f (own l u n) → May a.row s (own l t n) i.next.first (own l u n)
  by_next s n f i u may = subst (λ x. May a.row s (own l t n) x (own l u n)) (sym i.is_first) may

  side_alike : (s : Side) (n : Option Name) (f : ℕ) → ((x : Name) → n ≡ Some x → IsMove s x f) → (u : ℕ) → (u ≡ t → ⊥) → ((x : Name) → n ≡ Some x → May a.row s (own l t x) f (own l u x))
      → blocks p l t (request_at n (ask1 s)) u ≡ blocks q k t (request_at n (ask2 s)) u
  side_alike s None f move u ne may = refl
  side_alike s (Some n) f move u ne may =
      let i = move n refl in
      blocked1 s n f i u ne ∙ closed.answer a.row s (modes l k t n) (modes l k u n) i.next (by_next s n f i u (may n refl)) (are t u n ne) i.reached ∙ sym (blocked2 s n f i u ne)

  -- Another blocks it on the next name.
  next_blocked : (u : ℕ) → (u ≡ t → ⊥) → (n : Name) → a.next ≡ Some n → is_blocked p a.row Next (own l t n) 0 (own l u n) ≡ true → blocks p l t (request_at a.next (ask1 Next)) u ≡ true
  next_blocked u ne n e is =
      let i = next_move n e in
      ap (λ x. blocks p l t (request_at x (ask1 Next)) u) e ∙ blocked1 Next n 0 i u ne ∙ ap (λ x. is_blocked p a.row Next (own l t n) x (own l u n)) i.is_first ∙ is

  abbrev pub rs1 : List Request
  rs1 = requests (plan_by p l t a)

  abbrev pub rs2 : List Request
  rs2 = requests (plan_by q k t a)

  split1 : (u : ℕ) → blocks p l t rs1 u ≡ (blocks p l t (request_at a.current (ask1 Current)) u || blocks p l t (request_at a.next (ask1 Next)) u)
  split1 u = list_any-append (λ r. conflicts p l t r u) (request_at a.current (ask1 Current)) (request_at a.next (ask1 Next))

  split2 : (u : ℕ) → blocks q k t rs2 u ≡ (blocks q k t (request_at a.current (ask2 Current)) u || blocks q k t (request_at a.next (ask2 Next)) u)
  split2 u = list_any-append (λ r. conflicts q k t r u) (request_at a.current (ask2 Current)) (request_at a.next (ask2 Next))

  blocks_alike : (u : ℕ) → blocks p l t rs1 u ≡ blocks q k t rs2 u
  blocks_alike u = by (same_or_not u t)
    where
      or_true : (b : Bool) → (b || true) ≡ true
      or_true true = refl
      or_true false = refl

      both : (ne : u ≡ t → ⊥) (c : MayCome p May l t a u)
          → ((n : Name) → a.current ≡ Some n → May a.row Current (own l t n) (held_next l t a.next) (own l u n)) ⊎ ((n : Name) × (a.next ≡ Some n) × (is_blocked p a.row Next (own l t n) 0 (own l u n) ≡ true))
          → (blocks p l t (request_at a.current (ask1 Current)) u || blocks p l t (request_at a.next (ask1 Next)) u) ≡ (blocks q k t (request_at a.current (ask2 Current)) u || blocks q k t (request_at a.next (ask2 Next)) u)
      both ne c (inl current) =
          ap (λ b. b || blocks p l t (request_at a.next (ask1 Next)) u) (side_alike Current a.current (held_next l t a.next) (λ x e. current_move x) u ne current)
          ∙ ap (λ b. blocks q k t (request_at a.current (ask2 Current)) u || b) (side_alike Next a.next 0 next_move u ne c.next)
      both ne c (inr (n, e, is)) =
          let first = next_blocked u ne n e is in
          ap (λ b. blocks p l t (request_at a.current (ask1 Current)) u || b) first ∙ or_true (blocks p l t (request_at a.current (ask1 Current)) u)
          ∙ sym (ap (λ b. blocks q k t (request_at a.current (ask2 Current)) u || b) (sym (side_alike Next a.next 0 next_move u ne c.next) ∙ first) ∙ or_true (blocks q k t (request_at a.current (ask2 Current)) u))

      by : (u ≡ t) ⊎ (u ≡ t → ⊥) → blocks p l t rs1 u ≡ blocks q k t rs2 u
      by (inl e) = ap (λ v. blocks p l t rs1 v) e ∙ blocks_self p l t rs1 ∙ sym (ap (λ v. blocks q k t rs2 v) e ∙ blocks_self q k t rs2)
      by (inr ne) = let c = comes u ne in split1 u ∙ both ne c c.current ∙ sym (split2 u)

  within1 : AreWithin p.count l
  within1 = within_first p q May R closed l k are

  within2 : AreWithin q.count k
  within2 = within_second p q May R closed l k are

  has1 : (u : ℕ) → has (blockers p l t rs1) u ≡ blocks p l t rs1 u
  has1 u = has-blockers p lawful l within1 t rs1 (asks_by p lawful l within1 t a) u

  has2 : (u : ℕ) → has (blockers q k t rs2) u ≡ blocks q k t rs2 u
  has2 u = has-blockers q lawful_too k within2 t rs2 (asks_by q lawful_too k within2 t a) u

  -- So the blockers are the same.
  pub same_blockers : blockers p l t rs1 ≡ blockers q k t rs2
  same_blockers = same_rising (blockers p l t rs1) (blockers q k t rs2) (rising_filter (blocks p l t rs1) (lockers l) (lockers_rise l)) (rising_filter (blocks q k t rs2) (lockers k) (lockers_rise k))
      (λ u. has1 u ∙ blocks_alike u ∙ sym (has2 u))

  -- Where there are none, the set has the modes after the requests are kept.
  module _ (granted : blockers p l t rs1 ≡ []) (apart : (n : Name) → a.current ≡ Some n → a.next ≡ Some n → ⊥) where
    neither : (u : ℕ) → (blocks p l t (request_at a.current (ask1 Current)) u ≡ false) × (blocks p l t (request_at a.next (ask1 Next)) u ≡ false)
    neither u = or_both _ _ (sym (split1 u) ∙ sym (has1 u) ∙ ap (λ us. has us u) granted)

    -- So no other blocks it on the next name, and each request may come.
    current_comes : (u : ℕ) → (u ≡ t → ⊥) → (n : Name) → a.current ≡ Some n → May a.row Current (own l t n) (held_next l t a.next) (own l u n)
    current_comes u ne = let c = comes u ne in by c.current
      where
        no : (b : Bool) → b ≡ true → b ≡ false → ⊥
        no b f g = cc

        by : ((n : Name) → a.current ≡ Some n → May a.row Current (own l t n) (held_next l t a.next) (own l u n)) ⊎ ((n : Name) × (a.next ≡ Some n) × (is_blocked p a.row Next (own l t n) 0 (own l u n) ≡ true))
            → (n : Name) → a.current ≡ Some n → May a.row Current (own l t n) (held_next l t a.next) (own l u n)
        by (inl may) = may
        by (inr (n, e, is)) = absurd (let z = neither u in no (blocks p l t (request_at a.next (ask1 Next)) u) (next_blocked u ne n e is) z.1)

    moves : (s : Side) (n : Name) (f : ℕ) (i : IsMove s n f) (u : ℕ) → (u ≡ t → ⊥) → May a.row s (own l t n) f (own l u n) → blocks p l t (request_at (Some n) (ask1 s)) u ≡ false
        → R (record { first = mode_after p (own l t n) (ask1 s); second = mode_after q (own k t n) (ask2 s) }) (modes l k u n)
    moves s n f i u ne may free =
        subst (λ x. R (record { first = mode_after p (own l t n) x; second = mode_after q (own k t n) (ask2 s) }) (modes l k u n)) (sym i.asks1)
        (subst (λ x. R (record { first = mode_after p (own l t n) (asked p a.row s (own l t n) i.next.first); second = mode_after q (own k t n) x }) (modes l k u n)) (sym i.asks2)
        (closed.move a.row s (modes l k t n) (modes l k u n) i.next (by_next s n f i u may) (are t u n ne) i.reached (sym (blocked1 s n f i u ne) ∙ free)))

    abbrev l1 : Locks
    l1 = kept p l t (request_at a.current (ask1 Current))

    abbrev k1 : Locks
    k1 = kept q k t (request_at a.current (ask2 Current))

    first_in : AreIn R (modes l1 k1)
    first_in = kept_at p q May R closed l k are t a.current (ask1 Current) (ask2 Current)
        (λ n u e ne. moves Current n (held_next l t a.next) (current_move n) u ne (current_comes u ne n e) (subst (λ x. blocks p l t (request_at x (ask1 Current)) u ≡ false) e (let z = neither u in z.0)))

    -- The request on the current name leaves what is held on the next.
    still : (o : Protocol) (h : Locks) (c : Option Name) (b : Option (ℕ × Span)) (n : Name) (u : ℕ) → (c ≡ Some n → ⊥) → own (kept o h t (request_at c b)) u n ≡ own h u n
    still o h None b n u d = refl
    still o h (Some c) b n u d = elsewhere o h t c b u n (λ e. d (ap (λ x. Some x) (sym e.1)))

    second_in : AreIn R (modes (kept p l1 t (request_at a.next (ask1 Next))) (kept q k1 t (request_at a.next (ask2 Next))))
    second_in = kept_at p q May R closed l1 k1 first_in t a.next (ask1 Next) (ask2 Next) beside
      where
        beside : (n : Name) (u : ℕ) → a.next ≡ Some n → (u ≡ t → ⊥) → R (record { first = mode_after p (own l1 t n) (ask1 Next); second = mode_after q (own k1 t n) (ask2 Next) }) (modes l1 k1 u n)
        beside n u e ne =
            let d : a.current ≡ Some n → ⊥ = λ f. apart n f e in
            subst (λ o. R (record { first = mode_after p o (ask1 Next); second = mode_after q (own k1 t n) (ask2 Next) }) (modes l1 k1 u n)) (sym (still p l a.current (ask1 Current) n t d))
            (subst (λ o. R (record { first = mode_after p (own l t n) (ask1 Next); second = mode_after q o (ask2 Next) }) (modes l1 k1 u n)) (sym (still q k a.current (ask2 Current) n t d))
            (subst (λ o. R (record { first = mode_after p (own l t n) (ask1 Next); second = mode_after q (own k t n) (ask2 Next) }) (record { first = o; second = own k1 u n })) (sym (still p l a.current (ask1 Current) n u d))
            (subst (λ o. R (record { first = mode_after p (own l t n) (ask1 Next); second = mode_after q (own k t n) (ask2 Next) }) (record { first = own l u n; second = o })) (sym (still q k a.current (ask2 Current) n u d))
            (moves Next n 0 (next_move n e) u ne (let c = comes u ne in c.next n e) (subst (λ x. blocks p l t (request_at x (ask1 Next)) u ≡ false) e (let z = neither u in z.1))))))

    pub kept_in : AreIn R (modes (kept p l t rs1) (kept q k t rs2))
    kept_in =
        subst (λ h. AreIn R (modes h (kept q k t rs2))) (sym (kept_append p l t (request_at a.current (ask1 Current)) (request_at a.next (ask1 Next))))
        (subst (λ h. AreIn R (modes (kept p l1 t (request_at a.next (ask1 Next))) h)) (sym (kept_append q k t (request_at a.current (ask2 Current)) (request_at a.next (ask2 Next)))) second_in)
