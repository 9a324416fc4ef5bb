-- Every run with ghosts leaves a well-formed state.
use Rattle.std.specs.Prelude.{◌≡◌, ℕ, Bool, true, false, not, ◌&&◌, ◌||◌, ◌==◌, cond, if◌then◌else◌, List, [], ◌∷◌, Option, Some, None, filter, refl, is_some, unwrap_or}
use Rattle.std.specs.Ordering.{nat_cmp, eq_by_cmp}
use Rattle.std.specs.FinMap.{find}
use Rattle.std.specs.List.{list_any}
use Rattle.std.proofs.lemmas.Bool.{cases_eq}
use Rattle.std.proofs.lemmas.List.Kept.{IsStrictlyIncreasing-filter}
use Rattle.std.proofs.Common.{sym, ◌∙◌, ap, subst, inl, inr, ⊎_elim, ◌≢◌, arith, true≢false}
use Rattle.kr_model.specs.declared.Name.TheVariants.{Key}
use Rattle.kr_model.specs.Locks.{Locks, own}
use Rattle.kr_model.specs.Map.{Map, IsMap, Changes, get, at}
use Rattle.kr_model.specs.State.{Active, idle, standing}
use Rattle.kr_model.specs.Step.{refusal_of}
use Rattle.kr_model.proofs.MapLaws.{keys_apart}
use Rattle.kr_model.proofs.Requests.{AreLocks}
use Rattle.kr_theorem.proofs.gaps.Gaps.{has, at-key, and_one, and_two}
use Rattle.kr_theorem.proofs.gaps.Maps.{has_none, none_has}
use Rattle.kr_theorem.proofs.gaps.Undo.{ChangedIn}
use Rattle.kr_theorem.proofs.run.Actives.{or_left, or_right}
use Rattle.kr_theorem.proofs.run.Programs.{state_after}
use Rattle.kr_ghost.specs.Protocol.{GhostProtocol, IsLawfulGhost, Purges, Unlocked, Inherit, IsLawfulPurge}
use Rattle.kr_ghost.specs.State.{GhostState, opened, named, among, Absent, stand_by, stand, is_ghost}
use Rattle.kr_ghost.specs.Step.{step, locks_purged, lets_purge, is_locked, has_change, may_purge, without_ghost, purged}
use Rattle.kr_ghost.specs.declared.moves.Move.{Move}
use Rattle.kr_ghost.specs.declared.moves.Move.TheVariants.{Attempt, Purge}
use Rattle.kr_ghost.specs.Run.{run}
use Rattle.kr_ghost.specs.WellFormed.{IsGhostState}
use Rattle.kr_ghost.proofs.Names.{key_is, IsMap-named, has-named, among_others, among_none, purged_here, purged_apart}
use Rattle.kr_ghost.proofs.Locking.{not_at}
use Rattle.kr_ghost.proofs.Passing.{inherited, on_ghost, on_others, are_locks, unlocked}
use Rattle.kr_ghost.proofs.Serving.{not_true}
use Rattle.kr_ghost.proofs.Purging.{changed_found}
use Rattle.kr_ghost.proofs.Formed.{Formed}
use Rattle.kr_ghost.proofs.FormedSteps.{step_keeps}

-- Purges --

ghost_absent : (w : Option ℕ) (g : Bool) → is_ghost (stand_by w g) ≡ true → w ≡ None
ghost_absent (Some v) g is = absurd (cc)
ghost_absent None g is = refl

module _ (p : GhostProtocol) (laws : IsLawfulGhost p) (s : GhostState) (f : Formed p s) (k : ℕ) (is : is_ghost (stand s k) ≡ true) (unchanged : (u : ℕ) → ChangedIn (standing s.state u).changes k → ⊥) where
  abbrev ghosts : List ℕ
  ghosts = filter (λ x. not (x == k)) s.ghosts

  abbrev e' : Map
  e' = named s.state.map ghosts

  gone : has e' k ≡ false
  gone = purged_here s.state.map s.ghosts k (has_none s.state.map k (ghost_absent (get s.state.map k) (among s.ghosts k) is))

  purged_with : (l : Locks) → AreLocks p.table l → ((u y : ℕ) → has e' y ≡ false → own l u (Key y) ≡ 0) → Formed p (record { state = state_after s.state s.state.map l s.state.active; ghosts = ghosts })
  purged_with l locks locked = record {
    is_map = f.is_map;
    rising = IsStrictlyIncreasing-filter (λ x. not (x == k)) s.ghosts f.rising;
    absent = λ y g. ⊎_elim
        (λ same. absurd (true≢false (sym (ap (among ghosts) (sym same) ∙ g) ∙ among_none s.ghosts k)))
        (λ ne. f.absent y (sym (among_others s.ghosts k y ne) ∙ g))
        (cases_eq y k);
    locks = locks;
    locked = locked;
    changed = λ u y c. purged_apart s.state.map s.ghosts k y (λ same. unchanged u (subst (λ z. ChangedIn (standing s.state u).changes z) same c)) ∙ f.changed u y c;
  }

  next_apart : at e' k ≢ Key k
  next_apart same = let w = at-key e' k k (IsMap-named s.state.map ghosts f.is_map) same in true≢false (sym w.1 ∙ gone)

  leaves : (x : Purges) → IsLawfulPurge p.table x → lets_purge x s.state.locks k ≡ true → Formed p (record { state = state_after s.state s.state.map (locks_purged p.table x s.state k (at e' k)) s.state.active; ghosts = ghosts })
  leaves Unlocked fit lets = purged_with s.state.locks f.locks (λ u y none. ⊎_elim
      (λ same. ap (λ z. own s.state.locks u (Key z)) same ∙ unlocked s.state.locks k (not_true (is_locked s.state.locks (Key k)) lets) u)
      (λ ne. f.locked u y (sym (purged_apart s.state.map s.ghosts k y ne) ∙ none))
      (cases_eq y k))
  leaves (Inherit heir) fit lets = purged_with (inherited p.table laws.table heir fit s.state f.locks k (at e' k) next_apart) (are_locks p.table laws.table heir fit s.state f.locks k (at e' k) next_apart) (λ u y none. ⊎_elim
      (λ same. ap (λ z. own (inherited p.table laws.table heir fit s.state f.locks k (at e' k) next_apart) u (Key z)) same ∙ on_ghost p.table laws.table heir fit s.state f.locks k (at e' k) next_apart u)
      (λ ne. on_others p.table laws.table heir fit s.state f.locks k (at e' k) next_apart u (Key y) (λ same. ne (key_is y k same)) (not_at e' (IsMap-named s.state.map ghosts f.is_map) k y none)
      ∙ f.locked u y (sym (purged_apart s.state.map s.ghosts k y ne) ∙ none))
      (cases_eq y k))

-- Who is active with a change of k is found by a look at all that are active.
standing_changed : (xs : List (ℕ × Active)) (u k : ℕ) → list_any (λ (x : ℕ × Active). is_some (find nat_cmp k x.1.changes)) xs ≡ false → ChangedIn (unwrap_or (find nat_cmp u xs) idle).changes k → ⊥
standing_changed [] u k none c = c
standing_changed (x ∷ xs) u k none c = by (eq_by_cmp nat_cmp u x.0) c (λ rest d. standing_changed xs u k rest d)
  where
    by : (b : Bool) → ChangedIn (unwrap_or (cond b (Some x.1) (find nat_cmp u xs)) idle).changes k
        → (list_any (λ (y : ℕ × Active). is_some (find nat_cmp k y.1.changes)) xs ≡ false → ChangedIn (unwrap_or (find nat_cmp u xs) idle).changes k → ⊥) → ⊥
    by true c later = true≢false (sym (changed_found x.1.changes k c) ∙ or_left (is_some (find nat_cmp k x.1.changes)) (list_any (λ (x : ℕ × Active). is_some (find nat_cmp k x.1.changes)) xs) none)
    by false c later = later (or_right (is_some (find nat_cmp k x.1.changes)) (list_any (λ (x : ℕ × Active). is_some (find nat_cmp k x.1.changes)) xs) none) c

purge_keeps : (p : GhostProtocol) → IsLawfulGhost p → (s : GhostState) → Formed p s → (k : ℕ) → Formed p (purged p s k)
purge_keeps p laws s f k = by (may_purge p s k) refl
  where
    by : (b : Bool) → may_purge p s k ≡ b → Formed p (if b then without_ghost p s k else s)
    by false none = f
    by true may =
        let both = and_one (is_ghost (stand s k) && not (has_change s.state k)) (lets_purge p.purges s.state.locks k) may in
        let unchanged = not_true (has_change s.state k) (and_two (is_ghost (stand s k)) (not (has_change s.state k)) both) in
        leaves p laws s f k (and_one (is_ghost (stand s k)) (not (has_change s.state k)) both) (λ u c. standing_changed s.state.active u k unchanged c)
        p.purges laws.purges (and_two (is_ghost (stand s k) && not (has_change s.state k)) (lets_purge p.purges s.state.locks k) may)

-- Runs --

formed_run : (p : GhostProtocol) → IsLawfulGhost p → (moves : List Move) (s : GhostState) → Formed p s → Formed p (run p s moves).last
formed_run p laws [] s f = f
formed_run p laws (Attempt x ∷ moves) s f = formed_run p laws moves (step p s x.txn x.op).1 (step_keeps p laws s f x.txn x.op (refusal_of p.table s.state x.txn x.op))
formed_run p laws (Purge k ∷ moves) s f = formed_run p laws moves (purged p s k) (purge_keeps p laws s f k)

none_found : ◌≡◌ {A = Option ℕ} None (Some 0) → ⊥
none_found e = cc

tie_is : (q k : ℕ) → eq_by_cmp nat_cmp q k ≡ true → q ≡ k
tie_is q k h = ⊎_elim (λ same. same) (λ ne. absurd (true≢false (sym h ∙ keys_apart q k ne))) (cases_eq q k)

-- What is no name neither has a value nor is a ghost.
absent_name : (w : Option ℕ) (g : Bool) → stand_by w g ≡ Absent → (w ≡ None) × (g ≡ false)
absent_name (Some v) g is = absurd (cc)
absent_name None true is = absurd (cc)
absent_name None false is = (refl, refl)

well_formed : (p : GhostProtocol) (s : GhostState) → Formed p s → IsGhostState p s
well_formed p s f =
    let k = f.locks in
    let out : (y : ℕ) → stand s y ≡ Absent → has (named s.state.map s.ghosts) y ≡ false = λ y is.
    let z = absent_name (get s.state.map y) (among s.ghosts y) is in
    has-named s.state.map s.ghosts y ∙ ap (λ b. b || has s.state.map y) z.1 ∙ has_none s.state.map y z.0 in
    record {
      is_map = f.is_map;
      rising = f.rising;
      absent = λ y g. none_has s.state.map y (f.absent y g);
      are_locks = k.rise;
      within = k.within;
      no_none = k.no_none;
      locked = λ t y is. f.locked t y (out y is);
      changed = λ t y found is. true≢false (sym (f.changed t y (found_changed (standing s.state t).changes y found)) ∙ out y is);
    }
  where
    found_changed : (cs : Changes) (y : ℕ) → is_some (find nat_cmp y cs) ≡ true → ChangedIn cs y
    found_changed [] y found = absurd (cc)
    found_changed (c ∷ cs) y found = by (eq_by_cmp nat_cmp y c.0) refl found (λ older. found_changed cs y older)
      where
        by : (b : Bool) → eq_by_cmp nat_cmp y c.0 ≡ b → is_some (cond b (Some c.1) (find nat_cmp y cs)) ≡ true → (is_some (find nat_cmp y cs) ≡ true → ChangedIn cs y) → ChangedIn (c ∷ cs) y
        by true same found rest = inl (tie_is y c.0 same)
        by false other found rest = inr (rest found)

pub run_is_well_formed : (p : GhostProtocol) → IsLawfulGhost p → (opening : Map) (moves : List Move) → IsMap opening → IsGhostState p (run p (opened opening) moves).last
run_is_well_formed p laws opening moves is_map = well_formed p (run p (opened opening) moves).last (formed_run p laws moves (opened opening) (record {
  is_map = is_map;
  rising = λ k lt. absurd (omega arith);
  absent = λ k g. absurd (true≢false (sym g));
  locks = record { rise = refl; within = λ t n. omega arith; no_none = λ k e. none_found e };
  locked = λ t k none. refl;
  changed = λ t k c. absurd c;
}))
