-- The invariant: the locks guard what was touched and moved, each transaction alone owns what it changed, and each program replays on the committed map.
use Rattle.std.proofs.Common.{ℕ, ◌∷◌, Option, Some, None, ◌≤◌, ◌<◌, ◌≡◌, ◌≢◌, inl, inr, ⊎_elim, sym, ap, ◌∙◌, true, false, subst}
use Rattle.std.proofs.lemmas.Bool.{cases_eq}
use Rattle.kr_model.specs.declared.Name.{Name}
use Rattle.kr_model.specs.declared.Name.TheVariants.{Key}
use Rattle.kr_model.specs.Protocol.{Protocol}
use Rattle.kr_model.specs.Map.{Map, IsMap, Changes, get, restore, restore_all, pairs_between}
use Rattle.kr_theorem.proofs.gaps.Gaps.{has}
use Rattle.kr_theorem.proofs.gaps.Maps.{has_same, between_same}
use Rattle.kr_theorem.proofs.gaps.Undo.{restore_apart, restore_back, ChangedIn, changed_or_not, restore_all_apart, restore_all_same}
use Rattle.kr_theorem.proofs.gaps.Moves.{MovedIn, moved_by, moved_changed, absent_moved, unmoved_kept, moved_frame}
use Rattle.kr_theorem.proofs.step.Parts.{Progress, Part, Parts, blank, rolling_with, changed_touched, Touched, Scanned, Changed, Moved, with_part, with_same, with_other, by_part, whose}
use Rattle.kr_theorem.proofs.step.Covers.{Modes, Holds}
use Rattle.kr_theorem.proofs.step.Guarded.{Guarded}
use Rattle.kr_theorem.proofs.step.Undoable.{Undoable}
use Rattle.kr_theorem.proofs.step.Replay.{base, Replays, replays_stable, Committed}

-- What a transaction owns: the keys that it changed.
pub record Owned (p : Protocol) (m : Map) (own : Modes) (part : Parts) : Type 0 where
  -- the moved keys are those that its changes moved
  pub counted : (t : ℕ) → (part t).moved ≡ moved_by m (part t).changes
  -- a changed key that is present is held
  pub present : (t k : ℕ) → Changed (part t) k → has m k ≡ true → Holds p (own t (Key k))
  -- no other has touched it
  pub alone : (t u k : ℕ) → u ≢ t → Touched (part u) k → Changed (part t) k → ⊥

-- A scan in progress has read what lies between its lower end and the key read last, which is below its upper end.
abbrev pub HasRead : Map → Option Progress → Type 0
HasRead m None = Unit
HasRead m (Some s) = (s.low ≤ s.last) × (s.last < s.high) × (s.pairs ≡ pairs_between m s.low s.last)

-- The invariant of the present map m, the locks, the parts and the committed map c.
pub record Invariant (p : Protocol) (m : Map) (own : Modes) (part : Parts) (c : Map) : Type 0 where
  pub is_map : IsMap m
  pub is_committed_map : IsMap c
  -- the locks guard what was touched and moved, and each transaction alone owns what it changed
  pub guarded : Guarded p m own part
  pub owned : Owned p m own part
  -- each transaction can undo its changes one at a time
  pub undoable : Undoable p m own part
  -- each program replays, but for those that roll back, and each scan has read what lies in its range so far
  pub replay : (t : ℕ) → (part t).rolling ≡ false → Replays m (part t)
  pub scan : (t : ℕ) → HasRead m (part t).scan
  -- the present map is the committed one but for the changes of the active transactions
  pub committed : Committed m c part

-- A moved key is changed, and so touched.
pub moved_touched : (p : Protocol) (m : Map) (own : Modes) (part : Parts) → Owned p m own part → (u k : ℕ) → Moved (part u) k → Touched (part u) k
moved_touched p m own part w u k moved = changed_touched (part u) k (moved_changed m (part u).changes k (subst (λ xs. MovedIn xs k) (w.counted u) moved))

-- A changed key that is absent was moved.
pub gone_moved : (p : Protocol) (m : Map) (own : Modes) (part : Parts) → Owned p m own part → (u k : ℕ) → Changed (part u) k → has m k ≡ false → Moved (part u) k
gone_moved p m own part w u k changed none = subst (λ xs. MovedIn xs k) (sym (w.counted u)) (absent_moved m (part u).changes k changed none)

-- To take the changes back brings no key that wasn't moved, and takes none away.
pub kept : (p : Protocol) (m : Map) (own : Modes) (part : Parts) → Owned p m own part → (u k : ℕ) → (Moved (part u) k → ⊥) → has (restore_all m (part u).changes) k ≡ has m k
kept p m own part w u k out = unmoved_kept m (part u).changes k (λ moved. out (subst (λ xs. MovedIn xs k) (sym (w.counted u)) moved))

-- One step of t --

-- What it has to show for the keys that it owns; q is its part after the step.
pub owned_stepped : (p : Protocol) (m n : Map) (own own' : Modes) (part : Parts) (t : ℕ) (q : Part) → Owned p m own part
    → ((u : ℕ) → u ≢ t → (name : Name) → own' u name ≡ own u name)
    → ((u k : ℕ) → u ≢ t → Touched (part u) k → get n k ≡ get m k)
    → q.moved ≡ moved_by n q.changes
    → ((k : ℕ) → Changed q k → has n k ≡ true → Holds p (own' t (Key k)))
    → ((u k : ℕ) → u ≢ t → Touched (part u) k → Changed q k → ⊥)
    → ((u k : ℕ) → u ≢ t → Touched q k → Changed (part u) k → ⊥)
    → Owned p n own' (with_part part t q)
owned_stepped p m n own own' part t q w others values counted present changer toucher =
    let same : (u k : ℕ) → u ≢ t → Changed (part u) k → has n k ≡ has m k = λ u k ne b. has_same m n k (values u k ne (changed_touched (part u) k b)) in
    record {
      counted = by_part (λ u x. x.moved ≡ moved_by n x.changes) part t q counted (λ u ne. w.counted u ∙ sym (moved_frame m n (part u).changes (λ k b. same u k ne b)));
      present = by_part (λ u x. (k : ℕ) → Changed x k → has n k ≡ true → Holds p (own' u (Key k))) part t q present
          (λ u ne k b there. subst (λ h. Holds p h) (sym (others u ne (Key k))) (w.present u k b (sym (same u k ne b) ∙ there)));
      alone = λ x u k ne touch b. ⊎_elim
          (λ mine. let xt : x ≢ t = λ e. ne (mine.0 ∙ sym e) in toucher x k xt mine.1 (subst (λ z. Changed z k) (with_other part t q x xt) b))
          (λ other. ⊎_elim (λ mine. changer u k other.0 other.1 mine.1) (λ old. w.alone x u k ne other.1 old.1) (whose (λ z. Changed z k) part t q x b))
          (whose (λ z. Touched z k) part t q u touch);
    }

-- What a scan has read stays where no value in it changes.
scan_stable : (m n : Map) (s : Option Progress) → IsMap m → IsMap n → ((k : ℕ) → Scanned s k → get n k ≡ get m k) → HasRead m s → HasRead n s
scan_stable m n None hm hn same h = tt
scan_stable m n (Some s) hm hn same h = (h.0, h.1, h.2 ∙ between_same m n s.low s.last hm hn (λ q a b. sym (same q (a, b))))

-- What it has to show for the whole invariant: it changes no value at a point that another touched.
pub invariant_stepped : (p : Protocol) (m n : Map) (own own' : Modes) (part : Parts) (c c' : Map) (t : ℕ) (q : Part)
    → Invariant p m own part c → IsMap n → IsMap c'
    → ((u k : ℕ) → u ≢ t → Touched (part u) k → get n k ≡ get m k)
    → Guarded p n own' (with_part part t q)
    → Owned p n own' (with_part part t q)
    → Undoable p n own' (with_part part t q)
    → (q.rolling ≡ false → Replays n q)
    → HasRead n q.scan
    → Committed n c' (with_part part t q)
    → Invariant p n own' (with_part part t q) c'
invariant_stepped p m n own own' part c c' t q i hn hc values guarded owned undoable replay scan committed = record {
  is_map = hn;
  is_committed_map = hc;
  guarded = guarded;
  owned = owned;
  undoable = undoable;
  replay = by_part (λ u x. x.rolling ≡ false → Replays n x) part t q replay (λ u ne live. replays_stable m n (part u) (changed_touched (part u)) (λ k touch. values u k ne touch) (i.replay u live));
  scan = by_part (λ u x. HasRead n x.scan) part t q scan (λ u ne. scan_stable m n (part u).scan i.is_map hn (λ k s. values u k ne (inr (inl s))) (i.scan u));
  committed = committed;
}

-- The committed map stays --

-- A key is changed by t, and by no other.
pub committed_change : (m : Map) (part : Parts) (c : Map) (t : ℕ) (q : Part) (k : ℕ) (b : Option ℕ) → IsMap m
    → q.changes ≡ (k, get m k) ∷ (part t).changes
    → ((u : ℕ) → u ≢ t → Changed (part u) k → ⊥)
    → Committed m c part → Committed (restore m k b) c (with_part part t q)
committed_change m part c t q k b hm now fresh old =
    let n = restore m k b in
    let was = (part t).changes in
    let base_t : (y : ℕ) → base n q y ≡ base m (part t) y = λ y. ap (λ l. get (restore_all n l) y) now ∙ ap (λ z. get (restore_all z was) y) (restore_back m k b hm) in
    let in_t : (y : ℕ) → Changed q y → (ChangedIn was y → ⊥) → y ≡ k = λ y h out. ⊎_elim (λ e. e) (λ d. absurd (out d)) (subst (λ l. ChangedIn l y) now h) in
    let only_t : (y : ℕ) → (ChangedIn was y → ⊥) → y ≡ k → (u : ℕ) → Changed (part u) y → ⊥ = λ y out is u d.
    ⊎_elim (λ e. out (subst (λ z. Changed (part z) y) e d)) (λ ne. fresh u ne (subst (λ z. Changed (part u) z) is d)) (cases_eq u t) in
    record {
      before = by_part (λ u x. (y : ℕ) → Changed x y → get c y ≡ base n x y) part t q
          (λ y h. ⊎_elim (λ mine. old.before t y mine) (λ out. old.now y (only_t y out (in_t y h out)) ∙ sym (restore_all_apart m was y out)) (changed_or_not was y) ∙ sym (base_t y))
          (λ u ne y h. old.before u y h ∙ restore_all_same m n (part u).changes y (inl h));
      now = λ y none.
          let mine : Changed q y → ⊥ = λ h. none t (subst (λ z. Changed z y) (sym (with_same part t q)) h) in
          let ne : y ≢ k = λ e. mine (subst (λ l. ChangedIn l y) (sym now) (inl e)) in
          old.now y (λ u d. ⊎_elim (λ e. mine (subst (λ l. ChangedIn l y) (sym now) (inr (subst (λ z. Changed (part z) y) e d))))
          (λ un. none u (subst (λ z. Changed z y) (sym (with_other part t q u un)) d)) (cases_eq u t))
          ∙ sym (restore_apart m k b y ne);
    }

-- The changes of t are undone.
pub committed_undo : (m : Map) (part : Parts) (c : Map) (t : ℕ) → Committed m c part → Committed (restore_all m (part t).changes) c (with_part part t blank)
committed_undo m part c t old =
    let cs = (part t).changes in
    let n = restore_all m cs in
    record {
      before = by_part (λ u x. (y : ℕ) → Changed x y → get c y ≡ base n x y) part t blank (λ y h. absurd h)
          (λ u ne y h. old.before u y h ∙ restore_all_same m n (part u).changes y (inl h));
      now = λ y none. ⊎_elim (λ mine. old.before t y mine)
          (λ out. old.now y (λ u d. ⊎_elim (λ e. out (subst (λ z. Changed (part z) y) e d)) (λ ne. none u (subst (λ z. Changed z y) (sym (with_other part t blank u ne)) d)) (cases_eq u t))
          ∙ sym (restore_all_apart m cs y out))
          (changed_or_not cs y);
    }

-- The newest change of t is undone.
pub committed_back : (m : Map) (part : Parts) (c : Map) (t : ℕ) (x : ℕ × Option ℕ) (cs : Changes) → (part t).changes ≡ x ∷ cs
    → Committed m c part → Committed (restore m x.0 x.1) c (with_part part t (rolling_with (restore m x.0 x.1) cs))
committed_back m part c t x cs is old =
    let n = restore m x.0 x.1 in
    let q = rolling_with n cs in
    let base_t : (y : ℕ) → base m (part t) y ≡ get (restore_all n cs) y = λ y. ap (λ l. get (restore_all m l) y) is in
    let was : (y : ℕ) → ChangedIn (x ∷ cs) y → Changed (part t) y = λ y h. subst (λ l. ChangedIn l y) (sym is) h in
    record {
      before = by_part (λ u z. (y : ℕ) → Changed z y → get c y ≡ base n z y) part t q (λ y h. old.before t y (was y (inr h)) ∙ base_t y)
          (λ u ne y h. old.before u y h ∙ restore_all_same m n (part u).changes y (inl h));
      now = λ y none.
          let left : ChangedIn cs y → ⊥ = λ h. none t (subst (λ z. Changed z y) (sym (with_same part t q)) h) in
          ⊎_elim (λ e. old.before t y (was y (inl e)) ∙ base_t y ∙ restore_all_apart n cs y left)
          (λ far. old.now y (λ u d. ⊎_elim (λ e. ⊎_elim far left (subst (λ l. ChangedIn l y) is (subst (λ z. Changed (part z) y) e d)))
          (λ ne. none u (subst (λ z. Changed z y) (sym (with_other part t q u ne)) d)) (cases_eq u t))
          ∙ sym (restore_apart m x.0 x.1 y far))
          (cases_eq y x.0);
    }

-- Nothing is changed.
pub committed_same : (m : Map) (part : Parts) (c : Map) (t : ℕ) (q : Part) → q.changes ≡ (part t).changes → Committed m c part → Committed m c (with_part part t q)
committed_same m part c t q same old = record {
  before = by_part (λ u x. (y : ℕ) → Changed x y → get c y ≡ base m x y) part t q
      (λ y h. old.before t y (subst (λ l. ChangedIn l y) same h) ∙ ap (λ l. get (restore_all m l) y) (sym same)) (λ u ne y h. old.before u y h);
  now = λ y none. old.now y (λ u d. ⊎_elim
      (λ e. none t (subst (λ z. Changed z y) (sym (with_same part t q)) (subst (λ l. ChangedIn l y) (sym same) (subst (λ z. Changed (part z) y) e d))))
      (λ ne. none u (subst (λ z. Changed z y) (sym (with_other part t q u ne)) d)) (cases_eq u t));
}
