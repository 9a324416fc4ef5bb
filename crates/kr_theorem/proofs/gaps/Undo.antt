-- Changes undone, newest first: what stands at each key before and after.
use Rattle.std.proofs.Common.{ℕ, [], ◌∷◌, Option, ◌≡◌, ◌≢◌, ◌⊎◌, inl, inr, ⊎_elim, refl, sym, ap, ◌∙◌}
use Rattle.std.proofs.lemmas.Bool.{cases_eq, eq-eqb, ne_eqb}
use Rattle.std.specs.Prelude.{if◌then◌else◌, Some, None}
use Rattle.kr_model.specs.Map.{Map, IsMap, Changes, get, restore, restore_all}
use Rattle.kr_model.proofs.UndoLaws.{get-restore, IsMap-restore}
use Rattle.kr_theorem.proofs.gaps.Maps.{same_map}

-- One change --

-- The key is restored, and every other is as it was.
pub restore_here : (m : Map) (k : ℕ) (b : Option ℕ) → get (restore m k b) k ≡ b
restore_here m k b = get-restore m k b k ∙ ap (λ c. if c then b else get m k) (eq-eqb k k refl)

pub restore_apart : (m : Map) (k : ℕ) (b : Option ℕ) (q : ℕ) → q ≢ k → get (restore m k b) q ≡ get m q
restore_apart m k b q ne = get-restore m k b q ∙ ap (λ c. if c then b else get m q) (ne_eqb k q (λ e. ne (sym e)))

-- A change undone leaves the map as it was before it.
pub restore_back : (m : Map) (k : ℕ) (b : Option ℕ) → IsMap m → restore (restore m k b) k (get m k) ≡ m
restore_back m k b h = same_map (restore (restore m k b) k (get m k)) m (IsMap-restore (restore m k b) k (get m k) (IsMap-restore m k b h)) h
    (λ q. ⊎_elim (λ e. ap (get (restore (restore m k b) k (get m k))) e ∙ restore_here (restore m k b) k (get m k) ∙ sym (ap (get m) e))
    (λ ne. restore_apart (restore m k b) k (get m k) q ne ∙ restore_apart m k b q ne) (cases_eq q k))

-- All changes --

-- Some change of the list is at the key.
abbrev pub ChangedIn : Changes → ℕ → Type 0
ChangedIn [] q = ⊥
ChangedIn (c ∷ cs) q = (q ≡ c.0) ⊎ ChangedIn cs q

pub changed_or_not : (cs : Changes) (q : ℕ) → (ChangedIn cs q) ⊎ (ChangedIn cs q → ⊥)
changed_or_not [] q = inr (λ h. h)
changed_or_not (c ∷ cs) q = ⊎_elim (λ e. inl (inl e)) (λ ne. ⊎_elim (λ h. inl (inr h)) (λ out. inr (λ h. ⊎_elim ne out h)) (changed_or_not cs q)) (cases_eq q c.0)

-- Some change of the list inserted the key: undone, it leaves the key absent.
abbrev pub InsertedIn : Changes → ℕ → Type 0
InsertedIn [] q = ⊥
InsertedIn (c ∷ cs) q = ((q ≡ c.0) × (c.1 ≡ None)) ⊎ InsertedIn cs q

pub inserted_changed : (cs : Changes) (q : ℕ) → InsertedIn cs q → ChangedIn cs q
inserted_changed [] q h = h
inserted_changed (c ∷ cs) q h = ⊎_elim (λ e. inl e.0) (λ older. inr (inserted_changed cs q older)) h

-- A change of a key that was present is no insert.
pub inserted_older : (k v : ℕ) (cs : Changes) (q : ℕ) → InsertedIn ((k, Some v) ∷ cs) q → InsertedIn cs q
inserted_older k v cs q h = ⊎_elim (λ e. absurd (some_none v e.1)) (λ older. older) h
  where
    some_none : (v : ℕ) → ◌≡◌ {A = Option ℕ} (Some v) None → ⊥
    some_none v e = cc

-- A key that no change is at is as it was.
pub restore_all_apart : (m : Map) (cs : Changes) (q : ℕ) → (ChangedIn cs q → ⊥) → get (restore_all m cs) q ≡ get m q
restore_all_apart m [] q out = refl
restore_all_apart m (c ∷ cs) q out = restore_all_apart (restore m c.0 c.1) cs q (λ h. out (inr h)) ∙ restore_apart m c.0 c.1 q (λ e. out (inl e))

-- What stands at a changed key when all is undone doesn't depend on what stands there now.
pub restore_all_same : (m n : Map) (cs : Changes) (q : ℕ) → (ChangedIn cs q) ⊎ (get m q ≡ get n q) → get (restore_all m cs) q ≡ get (restore_all n cs) q
restore_all_same m n [] q h = ⊎_elim (λ b. absurd b) (λ e. e) h
restore_all_same m n (c ∷ cs) q h = restore_all_same (restore m c.0 c.1) (restore n c.0 c.1) cs q
    (⊎_elim (λ e. inr (ap (get (restore m c.0 c.1)) e ∙ restore_here m c.0 c.1 ∙ sym (ap (get (restore n c.0 c.1)) e ∙ restore_here n c.0 c.1)))
    (λ ne. ⊎_elim (λ b. ⊎_elim (λ e. absurd (ne e)) (λ d. inl d) b) (λ e. inr (restore_apart m c.0 c.1 q ne ∙ e ∙ sym (restore_apart n c.0 c.1 q ne))) h)
    (cases_eq q c.0))
