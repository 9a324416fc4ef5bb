-- Who stays where those whom none of the rest blocks are taken out.
use Rattle.std.proofs.Common.{◌≡◌, ℕ, zero, suc, ◌<◌, ◌≤◌, ◌-◌, ◌==◌, Bool, true, false, cond, ◌||◌, refl, List, [], ◌∷◌, length, ap, sym, ◌∙◌, subst, ⊎_elim, get_or, arith}
use Rattle.std.specs.List.{AllZip, Contains, list_any, swap_remove}
use Rattle.std.proofs.lemmas.Bool.{eqb-true, eq-eqb, false≢true}
use Rattle.std.proofs.lemmas.List.Folds.{list_any_at}
use Rattle.std.specs.Prelude.{◌⊎◌}
use Rattle.std.proofs.lemmas.List.Elements.{Contains-append_cases, Contains-append_right, Contains-get_or}
use Rattle.std.proofs.lemmas.List.Sorted.{Contains-permutation, IsPermutation-swap_remove, IsPermutation-sym}
use Rattle.kr_deadlock.specs.declared.Waiting.{Waiting}
use Rattle.kr_model.specs.declared.Event.{Event}
use Rattle.kr_deadlock.specs.Waits.{IsChain, IsCycle}
use Rattle.kr_records.specs.Waits.{blockers_now, IsEntry, AreDeadlocked, HaveEntries, is_blocked_in}
use Rattle.kr_records.proofs.Ways.{or_second}

any_there : {A : Type 0} (p : A → Bool) (xs : List A) (x : A) → Contains xs x → p x ≡ true → list_any p xs ≡ true
any_there p xs x c h = list_any_at p xs c.0 x c.1 (ap p c.2 ∙ h)

only : {A : Type 0} (x y : A) → Contains (x ∷ []) y → x ≡ y
only x y c = at c.0 c.1 c.2
  where
    at : (k : ℕ) → k < 1 → get_or (x ∷ []) k y ≡ y → x ≡ y
    at zero l is = is
    at (suc k) l is = absurd (omega arith)

-- What is read at one place is one.
pub same_at : {A : Type 0} (xs : List A) (i : ℕ) (x y : A) → i < length xs → x ≡ get_or xs i x → y ≡ get_or xs i y → x ≡ y
same_at [] i x y within here there = absurd (omega arith)
same_at (z ∷ zs) zero x y within here there = here ∙ sym there
same_at (z ∷ zs) (suc i) x y within here there = same_at zs i x y (omega arith) here there

at_any : {A : Type 0} (xs : List A) (i : ℕ) (d e : A) → i < length xs → get_or xs i d ≡ get_or xs i e
at_any [] i d e within = absurd (omega arith)
at_any (z ∷ zs) zero d e within = refl
at_any (z ∷ zs) (suc i) d e within = at_any zs i d e (omega arith)

-- Where those from a place on are blocked, and the one before it, those from there on are.
pub held_more : (ws : List Waiting) (place : ℕ) (x : Waiting) → 0 < place → place ≤ length ws → x ≡ get_or ws (place - 1) x → is_blocked_in ws x ≡ true
    → ((j : ℕ) → place ≤ j → j < length ws → (d : Waiting) → is_blocked_in ws (get_or ws j d) ≡ true) → (j : ℕ) → place - 1 ≤ j → j < length ws → (d : Waiting) → is_blocked_in ws (get_or ws j d) ≡ true
held_more ws place x some few here blocked rest j from within d = ⊎_elim first (λ later. rest j later within d) by
  where
    by : (place - 1 ≡ j) ⊎ (place ≤ j)
    by = grind arith

    first : place - 1 ≡ j → is_blocked_in ws (get_or ws j d) ≡ true
    first same = ap (is_blocked_in ws) (at_any ws j d x within ∙ ap (λ k. get_or ws k x) (sym same) ∙ sym here) ∙ blocked

-- One whom none of these blocks is taken out, and none of the deadlocked ones.
pub deadlocked_stay : (ws ws' : List Waiting) (i : ℕ) (x : Waiting) → i < length ws → x ≡ get_or ws i x → ws' ≡ swap_remove ws i x → list_any (λ u. list_any (λ w. w.txn == u) ws) x.blockers.items ≡ false
    → (blockers : ℕ → List ℕ) (txns : List ℕ) → AreDeadlocked blockers txns → HaveEntries blockers txns ws → HaveEntries blockers txns ws'
deadlocked_stay ws ws' i x within here is free blockers txns tied all t there =
    let e = all t there in
    let w = e.0 in
    let moved : Contains (x ∷ swap_remove ws i x) w = Contains-permutation ws (x ∷ swap_remove ws i x) w (IsPermutation-swap_remove ws i x within here) e.1 in
    ⊎_elim (λ first. absurd (taken w e.2 e.3 (only x w first))) (λ rest. (w, subst (λ l. Contains l w) (sym is) rest, e.2, e.3)) (Contains-append_cases (x ∷ []) (swap_remove ws i x) w moved)
  where
    taken : (w : Waiting) → w.txn ≡ t → w.blockers.items ≡ blockers t → x ≡ w → ⊥
    taken w of_t its same =
        let next = tied t there in
        let entry = all next.0 next.1 in
        let held : list_any (λ v. v.txn == next.0) ws ≡ true = any_there (λ (v : Waiting). v.txn == next.0) ws entry.0 entry.1 (eq-eqb entry.0.txn next.0 entry.2) in
        let by_it : Contains x.blockers.items next.0 = subst (λ l. Contains l next.0) (sym (ap (λ (v : Waiting). v.blockers.items) same ∙ its)) next.2 in
        false≢true (sym free ∙ any_there (λ u. list_any (λ w. w.txn == u) ws) x.blockers.items next.0 by_it held)

-- Who stays was there.
pub stayed : (ws ws' : List Waiting) (i : ℕ) (x : Waiting) → i < length ws → x ≡ get_or ws i x → ws' ≡ swap_remove ws i x → (w : Waiting) → Contains ws' w → Contains ws w
stayed ws ws' i x within here is w there =
    let rest : Contains (x ∷ swap_remove ws i x) w = Contains-append_right (x ∷ []) (swap_remove ws i x) w (subst (λ l. Contains l w) is there) in
    Contains-permutation (x ∷ swap_remove ws i x) ws w (IsPermutation-sym ws (x ∷ swap_remove ws i x) (IsPermutation-swap_remove ws i x within here)) rest

-- Entries of the operations --

any_in : (us : List ℕ) (v : ℕ) → list_any (λ x. v == x) us ≡ true → Contains us v
any_in [] v h = absurd (false≢true h)
any_in (x ∷ xs) v h = by (v == x) refl h (any_in xs v)
  where
    by : (b : Bool) → (v == x) ≡ b → (b || list_any (λ y. v == y) xs) ≡ true → (list_any (λ y. v == y) xs ≡ true → Contains xs v) → Contains (x ∷ xs) v
    by true is h later = subst (λ w. Contains (x ∷ xs) w) (sym (eqb-true v x is)) (Contains-get_or (x ∷ xs) 0 x (omega arith))
    by false is h later = Contains-append_right (x ∷ []) xs v (later h)

-- One who is blocked has an entry, where each operation has one.
pub entry_of : (f : Event → List ℕ) (es : List Event) (ws : List Waiting) (t u : ℕ) → AllZip (IsEntry f) es ws → Contains (blockers_now f es t) u → (w : Waiting) × Contains ws w × (w.txn ≡ t) × (w.blockers.items ≡ blockers_now f es t)
entry_of f [] ws t u all c = absurd (omega (arith, c.1))
entry_of f (e ∷ es) [] t u all c = absurd all
entry_of f (e ∷ es) (x ∷ xs) t u all c = by (e.txn == t) refl (entry_of f es xs t u all.1)
  where
    at : (b : Bool) → (e.txn == t) ≡ b → Contains (cond b (f e) (blockers_now f es t)) u
    at b is = subst (λ (x : Bool). Contains (cond x (f e) (blockers_now f es t)) u) is c

    by : (b : Bool) → (e.txn == t) ≡ b → (Contains (blockers_now f es t) u → (w : Waiting) × Contains xs w × (w.txn ≡ t) × (w.blockers.items ≡ blockers_now f es t))
        → (w : Waiting) × Contains (x ∷ xs) w × (w.txn ≡ t) × (w.blockers.items ≡ cond (e.txn == t) (f e) (blockers_now f es t))
    by true is later =
        (x, Contains-get_or (x ∷ xs) 0 x (omega arith), all.0.txn ∙ eqb-true e.txn t is, all.0.blockers_are ∙ sym (ap (λ b. cond b (f e) (blockers_now f es t)) is))
    by false is later =
        let w = later (at false is) in
        (w.0, Contains-append_right (x ∷ []) xs w.0 w.1, w.2, w.3 ∙ sym (ap (λ b. cond b (f e) (blockers_now f es t)) is))

pub entries_of_all : (f : Event → List ℕ) (es : List Event) (ws : List Waiting) → AllZip (IsEntry f) es ws → (txns : List ℕ) → AreDeadlocked (blockers_now f es) txns → HaveEntries (blockers_now f es) txns ws
entries_of_all f es ws all txns tied t there =
    let next = tied t there in
    entry_of f es ws t next.0 all next.2

-- Cycles --

members : (f : ℕ → List ℕ) (whole : List ℕ) (t : ℕ) (us : List ℕ) (end : ℕ) → IsChain f t us end → ((v : ℕ) → list_any (λ x. v == x) (t ∷ us) ≡ true → Contains whole v) → Contains whole end → (v : ℕ) → list_any (λ x. v == x) (t ∷ us) ≡ true → (u : ℕ) × Contains whole u × Contains (f v) u
members f whole t [] end chain within last v there = (end, last, subst (λ x. Contains (f x) end) (sym (eqb-true v t (alone (v == t) there))) chain)
  where
    alone : (b : Bool) → (b || false) ≡ true → b ≡ true
    alone true h = refl
    alone false h = h
members f whole t (w ∷ ws) end chain within last v there = by (v == t) refl there (members f whole w ws end chain.1 (λ x h. within x (or_second (x == t) (list_any (λ y. x == y) (w ∷ ws)) h)) last v)
  where
    by : (b : Bool) → (v == t) ≡ b → (b || list_any (λ x. v == x) (w ∷ ws)) ≡ true → (list_any (λ x. v == x) (w ∷ ws) ≡ true → (u : ℕ) × Contains whole u × Contains (f v) u) → (u : ℕ) × Contains whole u × Contains (f v) u
    by true is h later = (w, within w (or_second (w == t) (list_any (λ y. w == y) (w ∷ ws)) (ap (λ b. b || list_any (λ y. w == y) ws) (eq-eqb w w refl))), subst (λ x. Contains (f x) w) (sym (eqb-true v t is)) chain.0)
    by false is h later = later h

-- The members of a cycle are deadlocked.
pub cycle_is_deadlocked : (f : ℕ → List ℕ) (t : ℕ) (cycle : List ℕ) → IsCycle f t cycle → AreDeadlocked f cycle
cycle_is_deadlocked f t [] c v there = absurd c.blocked
cycle_is_deadlocked f t (x ∷ xs) c v there =
    let first : x ≡ t = cc (c.first) in
    let head : Contains (x ∷ xs) t = subst (λ y. Contains (x ∷ xs) y) first (Contains-get_or (x ∷ xs) 0 x (omega arith)) in
    members f (x ∷ xs) x xs t c.blocked (λ w h. any_in (x ∷ xs) w h) head v (any_there (λ y. v == y) (x ∷ xs) v there (eq-eqb v v refl))

-- Who has an entry is among those of the entries.
pub entry_there : (f : ℕ → List ℕ) (txns : List ℕ) (ws : List Waiting) → HaveEntries f txns ws → (t : ℕ) → Contains txns t → list_any (λ w. w.txn == t) ws ≡ true
entry_there f txns ws all t there =
    let e = all t there in
    any_there (λ (w : Waiting). w.txn == t) ws e.0 e.1 (eq-eqb e.0.txn t e.2)
