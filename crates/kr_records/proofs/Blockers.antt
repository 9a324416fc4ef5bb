-- Entries of operations have their blockers.
use Rattle.std.proofs.Common.{◌≡◌, ℕ, ◌==◌, List, [], ◌∷◌, cond, refl, ap, ◌∙◌, ◌++◌, ◌+◌, ◌<◌, ◌≤◌, length, get_or, take, subst, sym, Bool, true, false, arith, ◌||◌}
use Rattle.std.specs.List.{AllZip, Contains, list_any}
use Rattle.std.proofs.lemmas.List.Folds.{list_any_at}
use Rattle.std.proofs.lemmas.Bool.{eqb-true, eq-eqb, false≢true}
use Rattle.std.proofs.lemmas.List.Elements.{Contains-get_or, Contains-append_right}
use Rattle.std.proofs.lemmas.List.{take_more, take_all}
use Rattle.kr_deadlock.specs.declared.Waiting.{Waiting}
use Rattle.kr_deadlock.specs.Waits.{blockers_of, IsChain, IsCycle}
use Rattle.kr_records.proofs.Begun.{or_second}
use Rattle.kr_model.specs.declared.Event.{Event}
use Rattle.kr_records.specs.Waits.{blockers_now, IsEntry}

pub blockers_of-entries : (f : Event → List ℕ) (es : List Event) (ws : List Waiting) → AllZip (IsEntry f) es ws → (t : ℕ) → blockers_of ws t ≡ blockers_now f es t
blockers_of-entries f [] [] h t = refl
blockers_of-entries f [] (w ∷ ws) h t = absurd h
blockers_of-entries f (e ∷ es) [] h t = absurd h
blockers_of-entries f (e ∷ es) (w ∷ ws) h t =
    ap (λ (n : ℕ). cond (n == t) w.blockers.items (blockers_of ws t)) h.0.txn
    ∙ ap (λ (us : List ℕ). cond (e.txn == t) us (blockers_of ws t)) h.0.blockers_are
    ∙ ap (λ (us : List ℕ). cond (e.txn == t) (f e) us) (blockers_of-entries f es ws h.1 t)

zip_push : {A B : Type 0} (R : A → B → Type 0) (xs : List A) (ys : List B) (x : A) (y : B) → AllZip R xs ys → R x y → AllZip R (xs ++ x ∷ []) (ys ++ y ∷ [])
zip_push R [] [] x y h r = (r, tt)
zip_push R [] (v ∷ ys) x y h r = absurd h
zip_push R (u ∷ xs) [] x y h r = absurd h
zip_push R (u ∷ xs) (v ∷ ys) x y h r = (h.0, zip_push R xs ys x y h.1 r)

-- one more entry
pub all_push : (f : Event → List ℕ) (noted : List Event) (i : ℕ) (d : Event) (ws ws' : List Waiting) (w : Waiting) → AllZip (IsEntry f) (take i noted) ws → i < length noted → IsEntry f (get_or noted i d) w → ws' ≡ ws ++ w ∷ [] → AllZip (IsEntry f) (take (i + 1) noted) ws'
all_push f noted i d ws ws' w before l entry is =
    subst (λ (vs : List Waiting). AllZip (IsEntry f) (take (i + 1) noted) vs) (sym is)
    (subst (λ (es : List Event). AllZip (IsEntry f) es (ws ++ w ∷ [])) (sym (take_more noted i d l)) (zip_push (IsEntry f) (take i noted) ws (get_or noted i d) w before entry))

-- one more entry, after that of e
pub entries_push : (f : Event → List ℕ) (e : Event) (noted : List Event) (i : ℕ) (d : Event) (ws ws' : List Waiting) (w : Waiting) → AllZip (IsEntry f) (e ∷ take i noted) ws → i < length noted → IsEntry f (get_or noted i d) w → ws' ≡ ws ++ w ∷ [] → AllZip (IsEntry f) (e ∷ take (i + 1) noted) ws'
entries_push f e noted i d ws ws' w before l entry is =
    subst (λ (vs : List Waiting). AllZip (IsEntry f) (e ∷ take (i + 1) noted) vs) (sym is)
    (subst (λ (es : List Event). AllZip (IsEntry f) (e ∷ es) (ws ++ w ∷ [])) (sym (take_more noted i d l))
    (zip_push (IsEntry f) (e ∷ take i noted) ws (get_or noted i d) w before entry))

pub entries_all : (f : Event → List ℕ) (e : Event) (noted : List Event) (i : ℕ) (ws : List Waiting) → AllZip (IsEntry f) (e ∷ take i noted) ws → length noted ≤ i → (t : ℕ) → blockers_of ws t ≡ blockers_now f (e ∷ noted) t
entries_all f e noted i ws all l = blockers_of-entries f (e ∷ noted) ws (subst (λ (es : List Event). AllZip (IsEntry f) (e ∷ es) ws) (take_all i noted l) all)

-- who is in the way of t is in the way of an operation of t
pub operation_of : (f : Event → List ℕ) (es : List Event) (t u : ℕ) → Contains (blockers_now f es t) u → (e : Event) × Contains es e × (e.txn ≡ t) × Contains (f e) u
operation_of f [] t u c = absurd (omega (arith, c.1))
operation_of f (e ∷ es) t u c = pick (e.txn == t) refl (operation_of f es t u)
  where
    pick : (b : Bool) → (e.txn == t) ≡ b → (Contains (blockers_now f es t) u → (d : Event) × Contains es d × (d.txn ≡ t) × Contains (f d) u) → (d : Event) × Contains (e ∷ es) d × (d.txn ≡ t) × Contains (f d) u
    pick true is later = (e, Contains-get_or (e ∷ es) 0 e (omega arith), eqb-true e.txn t is, subst (λ (b : Bool). Contains (cond b (f e) (blockers_now f es t)) u) is c)
    pick false is later =
        let d : (d : Event) × Contains es d × (d.txn ≡ t) × Contains (f d) u = later (subst (λ (b : Bool). Contains (cond b (f e) (blockers_now f es t)) u) is c) in
        (d.0, Contains-append_right (e ∷ []) es d.0 d.1, d.2, d.3)

-- An element settles whether there is one.
any_there : {A : Type 0} (p : A → Bool) (xs : List A) (x : A) → Contains xs x → p x ≡ true → list_any p xs ≡ true
any_there p xs x c h = list_any_at p xs c.0 x c.1 (ap p c.2 ∙ h)

-- Where none of those that block the requester is it or has a noted operation, no cycle of waiting transactions goes through it.
pub no_cycle_without : (f : Event → List ℕ) (e : Event) (noted : List Event) → list_any (λ u. (u == e.txn) || list_any (λ d. d.txn == u) noted) (f e) ≡ false
    → (cycle : List ℕ) → IsCycle (blockers_now f (e ∷ noted)) e.txn cycle → ⊥
no_cycle_without f e noted none [] c = c.blocked
no_cycle_without f e noted none (t ∷ us) c = by us c.blocked
  where
    now : ℕ → List ℕ
    now = blockers_now f (e ∷ noted)

    asker : t ≡ e.txn
    asker = cc (c.first)

    test : ℕ → Bool
    test u = (u == e.txn) || list_any (λ (d : Event). d.txn == u) noted

    own : now t ≡ f e
    own = ap now asker ∙ ap (λ (b : Bool). cond b (f e) (blockers_now f noted e.txn)) (eq-eqb e.txn e.txn refl)

    -- no blocker passes the test
    fails : (u : ℕ) → Contains (now t) u → test u ≡ true → ⊥
    fails u there h = false≢true (sym none ∙ any_there test (f e) u (subst (λ (vs : List ℕ). Contains vs u) own there) h)

    -- who is blocked is the requester or has an operation
    blocked : (u v : ℕ) → Contains (now u) v → test u ≡ true
    blocked u v there = pick (e.txn == u) refl
      where
        pick : (b : Bool) → (e.txn == u) ≡ b → test u ≡ true
        pick true is = ap (λ (b : Bool). b || list_any (λ (d : Event). d.txn == u) noted) (eq-eqb u e.txn (sym (eqb-true e.txn u is)))
        pick false is =
            let r = operation_of f noted u v (subst (λ (b : Bool). Contains (cond b (f e) (blockers_now f noted u)) v) is there) in
            or_second (u == e.txn) (list_any (λ (d : Event). d.txn == u) noted) (any_there (λ (d : Event). d.txn == u) noted r.0 r.1 (eq-eqb r.0.txn u r.2))

    by : (vs : List ℕ) → IsChain now t vs e.txn → ⊥
    by [] chain = fails e.txn chain (ap (λ (b : Bool). b || list_any (λ (d : Event). d.txn == e.txn) noted) (eq-eqb e.txn e.txn refl))
    by (u ∷ []) chain = fails u chain.0 (blocked u e.txn chain.1)
    by (u ∷ v ∷ vs) chain = fails u chain.0 (blocked u v chain.1.0)
