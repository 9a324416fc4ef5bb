-- A purge keeps what is known of the run.
use Rattle.std.specs.Prelude.{◌≡◌, ℕ, Bool, true, false, not, ◌&&◌, ◌==◌, cond, if◌then◌else◌, List, [], ◌∷◌, Option, Some, None, filter, refl, ◌⊎◌, is_some}
use Rattle.std.specs.Ordering.{nat_cmp, eq_by_cmp}
use Rattle.std.specs.FinMap.{find}
use Rattle.std.specs.List.{list_any}
use Rattle.std.proofs.Common.{sym, ◌∙◌, ap, subst, inl, inr, ⊎_elim, ◌≢◌, true≢false}
use Rattle.std.proofs.lemmas.Bool.{cases_eq, cases_Bool}
use Rattle.kr_model.specs.declared.Name.{Name}
use Rattle.kr_model.specs.declared.Name.TheVariants.{Key}
use Rattle.kr_model.specs.Map.{Map, IsMap, Changes, get, at}
use Rattle.kr_model.specs.Locks.{Locks}
use Rattle.kr_model.specs.State.{Active, is_rolling}
use Rattle.kr_model.specs.Run.{Entry}
use Rattle.kr_model.proofs.LockLaws.{name_or_not}
use Rattle.kr_model.proofs.MapLaws.{key_tie}
use Rattle.kr_model.proofs.Requests.{AreLocks}
use Rattle.kr_theorem.proofs.gaps.Gaps.{has, Alike, at-key, and_one, and_two}
use Rattle.kr_theorem.proofs.gaps.Maps.{has_none}
use Rattle.kr_theorem.proofs.gaps.Undo.{ChangedIn}
use Rattle.kr_theorem.proofs.run.Actives.{or_left, or_right}
use Rattle.kr_theorem.proofs.run.Programs.{state_after}
use Rattle.kr_theorem.proofs.run.Rollback.{SomeChanged}
use Rattle.kr_theorem.proofs.step.Parts.{Touched, Changed}
use Rattle.kr_ghost.specs.Protocol.{GhostProtocol, IsLawfulGhost, Purges, Unlocked, Inherit, IsLawfulPurge}
use Rattle.kr_ghost.specs.State.{GhostState, named, among, stand_by, stand, is_ghost}
use Rattle.kr_ghost.specs.Step.{has_change, is_locked, lets_purge, may_purge, locks_purged, without_ghost, purged}
use Rattle.kr_ghost.specs.declared.cases.Cover.TheVariants.{ReadKey, ReadGap}
use Rattle.kr_ghost.specs.Safe.{Hold, idle, free, Beside, IsSafeGhost}
use Rattle.kr_ghost.proofs.Names.{IsMap-named, ghost_named, purged_here, purged_apart, key_is}
use Rattle.kr_ghost.proofs.Holding.{Holds, Protects}
use Rattle.kr_ghost.proofs.Sim.{Sim}
use Rattle.kr_ghost.proofs.Purged.{unchanged_fits, inherits_keeps, inherits_gap, purged_holds, at_next, at_others, purged_sim, void_idle, unlocked_sim}
use Rattle.kr_ghost.proofs.Serving.{not_true}
use Rattle.kr_ghost.proofs.Guarded.{read_cover, Passed, at-name, purge_step}
use Rattle.kr_ghost.proofs.Locking.{not_at}
use Rattle.kr_ghost.proofs.Passing.{inherited, are_locks, unlocked}
use Rattle.kr_ghost.proofs.Told as told
use Rattle.kr_ghost.proofs.Known.{Known, names_map, guards}

-- What may be purged is a ghost.
ghost_is : (w : Option ℕ) (g : Bool) → is_ghost (stand_by w g) ≡ true → (w ≡ None) × (g ≡ true)
ghost_is (Some v) g is = absurd (cc)
ghost_is None true is = (refl, refl)
ghost_is None false is = absurd (cc)

-- A changed key is found among the changes.
pub changed_found : (cs : Changes) (k : ℕ) → ChangedIn cs k → is_some (find nat_cmp k cs) ≡ true
changed_found [] k c = absurd c
changed_found (x ∷ cs) k (inl is) = ap (λ b. is_some (cond b (Some x.1) (find nat_cmp k cs))) (ap (λ z. eq_by_cmp nat_cmp k z) (sym is) ∙ key_tie k)
changed_found (x ∷ cs) k (inr c) = by (eq_by_cmp nat_cmp k x.0) (changed_found cs k c)
  where
    by : (b : Bool) → is_some (find nat_cmp k cs) ≡ true → is_some (cond b (Some x.1) (find nat_cmp k cs)) ≡ true
    by true h = refl
    by false h = h

nobody_changed : (xs : List (ℕ × Active)) (k : ℕ) → list_any (λ (a : ℕ × Active). is_some (find nat_cmp k a.1.changes)) xs ≡ false → SomeChanged xs k → ⊥
nobody_changed [] k h c = c
nobody_changed (x ∷ xs) k h c = ⊎_elim
    (λ here. true≢false (sym (changed_found x.1.changes k here) ∙ or_left (is_some (find nat_cmp k x.1.changes)) (list_any (λ (a : ℕ × Active). is_some (find nat_cmp k a.1.changes)) xs) h))
    (λ later. nobody_changed xs k (or_right (is_some (find nat_cmp k x.1.changes)) (list_any (λ (a : ℕ × Active). is_some (find nat_cmp k a.1.changes)) xs) h) later)
    c

module _ (p : GhostProtocol) (laws : IsLawfulGhost p) (safe : IsSafeGhost p) (opening : Map) (h : List Entry) (s : GhostState) (g : Known p opening h s) (k : ℕ)
    (is : is_ghost (stand s k) ≡ true) (unchanged : has_change s.state k ≡ false) where
  abbrev m : Map
  m = s.state.map

  abbrev e : Map
  e = named s.state.map s.ghosts

  abbrev ghosts : List ℕ
  ghosts = filter (λ x. not (x == k)) s.ghosts

  abbrev e' : Map
  e' = named s.state.map ghosts

  abbrev n : Name
  n = at e' k

  abbrev z : Sim p m e s.state.locks g.part g.hold
  z = g.sim

  he : IsMap e
  he = names_map p opening h s g

  he' : IsMap e'
  he' = let i = g.inv in IsMap-named m ghosts i.is_map

  ghost : (get m k ≡ None) × (among s.ghosts k ≡ true)
  ghost = ghost_is (get m k) (among s.ghosts k) is

  there : has e k ≡ true
  there = ghost_named m s.ghosts k ghost.1

  gone : has e' k ≡ false
  gone = purged_here m s.ghosts k (has_none m k ghost.0)

  alike : Alike k e e'
  alike y ne = purged_apart m s.ghosts k y ne

  nobody : (u : ℕ) → Changed (g.part u) k → ⊥
  nobody u c = nobody_changed s.state.active k unchanged (told.has_noted h s.state g.part g.done g.told u k c)

  next_apart : n ≢ Key k
  next_apart same = let w = at-key e' k k he' same in true≢false (sym w.1 ∙ gone)

  state_rolls : (u : ℕ) → is_rolling s.state u ≡ (g.part u).rolling
  state_rolls u = told.rolls h s.state g.part g.done g.told u

  -- Who hangs on the ghost doesn't roll back.
  hangs : (u y : ℕ) → Touched (g.part u) y → at e y ≡ Key k → (g.hold u (Key k)).rolling ≡ false
  hangs u y touch on = ⊎_elim
      (λ rolls.
      let i = g.inv in
      let w = guards p opening h s g in
      let changed = i.rolled u y (sym (z.rolls u (Key k)) ∙ rolls) touch in
      absurd (nobody u (subst (λ x. Changed (g.part u) x) (key_is y k (sym (at-name e y he (w.named u y changed)) ∙ on)) changed)))
      (λ not. not)
      (cases_Bool (g.hold u (Key k)).rolling)

  either : (b : Bool) (x : Hold) → Protects (read_cover b) x → (Protects ReadKey x) ⊎ (Protects ReadGap x)
  either true x held = inl held
  either false x held = inr held

  -- What is known afterwards, by the lock states then.
  known_with : (l : Locks) (hold : Holds) → AreLocks p.table l → Sim p m e' l g.part hold → Passed e g.hold hold g.part k n
      → Known p opening h (record { state = state_after s.state m l s.state.active; ghosts = ghosts })
  known_with l hold locks sim passes =
      let i = g.inv in
      record {
        part = g.part;
        done = g.done;
        answered = g.answered;
        hold = hold;
        inv = record {
          is_map = i.is_map;
          is_committed_map = i.is_committed_map;
          guarded = purge_step e e' he he' g.hold hold g.part (guards p opening h s g) k there gone alike passes nobody;
          rolled = i.rolled;
          replay = i.replay;
          scan = i.scan;
          committed = i.committed;
        };
        sim = sim;
        locks = locks;
        told = told.retold h s.state g.part g.done m l g.told;
      }

  -- There are no locks on the ghost.
  stay_unlocked : is_locked s.state.locks (Key k) ≡ false → Known p opening h (record { state = state_after s.state m s.state.locks s.state.active; ghosts = ghosts })
  stay_unlocked none =
      let void : (u : ℕ) → g.hold u (Key k) ≡ idle (g.part u).rolling = λ u.
      void_idle p laws safe (g.hold u (Key k)) (subst (λ b. Beside p b (g.hold u (Key k)) free) (has_none m k ghost.0) (z.alone u (Key k))) (z.mode u (Key k) ∙ unlocked s.state.locks k none u)
      (unchanged_fits p m e s.state.locks g.part g.hold z k nobody u) ∙ ap idle (z.rolls u (Key k)) in
      known_with s.state.locks g.hold g.locks (unlocked_sim p m e e' s.state.locks g.part g.hold z k void alike)
      (record {
        keeps = λ u name c ne held. held;
        inherits = λ u y touch on held. absurd (nothing (has e y) (g.part u).rolling (subst (λ x. Protects (read_cover (has e y)) x) (void u) held));
      })
    where
      nothing : (b r : Bool) → Protects (read_cover b) (idle r) → ⊥
      nothing true r held = absurd (cc)
      nothing false r held = absurd (cc)

  -- They are inherited.
  heirs : (heir : ℕ → ℕ) → p.purges ≡ Inherit heir → IsLawfulPurge p.table (Inherit heir)
      → Known p opening h (record { state = state_after s.state m (locks_purged p.table (Inherit heir) s.state k n) s.state.active; ghosts = ghosts })
  heirs heir is_heir fit =
      let names : (y : ℕ) → has e' y ≡ false → (y ≡ k) ⊎ ((has e y ≡ false) × (Key y ≢ n)) =
      λ y none. ⊎_elim (λ same. inl same) (λ ne. inr (sym (alike y ne) ∙ none, not_at e' he' k y none)) (cases_eq y k) in
      let hold : Holds = purged_holds p laws heir is_heir fit m e e' s.state g.locks g.part g.hold z k n next_apart nobody state_rolls (has_none m k ghost.0) names in
      known_with (inherited p.table laws.table heir fit s.state g.locks k n next_apart) hold
      (are_locks p.table laws.table heir fit s.state g.locks k n next_apart)
      (purged_sim p laws heir is_heir fit m e e' s.state g.locks g.part g.hold z k n next_apart nobody state_rolls (has_none m k ghost.0) names)
      (record {
        keeps = λ u name c ne held. ⊎_elim
            (λ same. subst (λ x. Protects c (hold u x)) (sym same)
            (subst (λ x. Protects c x) (sym (at_next p laws heir is_heir fit m e e' s.state g.locks g.part g.hold z k n next_apart nobody state_rolls (has_none m k ghost.0) names u))
            (inherits_keeps p heir (g.hold u n) (g.hold u (Key k)) c (subst (λ x. Protects c (g.hold u x)) same held))))
            (λ other. subst (λ x. Protects c x) (sym (at_others p laws heir is_heir fit m e e' s.state g.locks g.part g.hold z k n next_apart nobody state_rolls
            (has_none m k ghost.0) names u name ne other)) held)
            (name_or_not name n);
        inherits =
            λ u y touch on held. subst (λ x. Protects ReadGap x)
            (sym (at_next p laws heir is_heir fit m e e' s.state g.locks g.part g.hold z k n next_apart nobody state_rolls (has_none m k ghost.0) names u))
            (inherits_gap p heir (g.hold u n) (g.hold u (Key k)) (hangs u y touch on) (either (has e y) (g.hold u (Key k)) held));
      })

  -- A purge that the locks on k let go ahead.
  pub leaves : (x : Purges) → p.purges ≡ x → IsLawfulPurge p.table x → lets_purge x s.state.locks k ≡ true
      → Known p opening h (record { state = state_after s.state m (locks_purged p.table x s.state k n) s.state.active; ghosts = ghosts })
  leaves Unlocked is_x fit lets = stay_unlocked (not_true (is_locked s.state.locks (Key k)) lets)
  leaves (Inherit heir) is_x fit lets = heirs heir is_x fit

-- A purge, or one that may not be.
pub purges : (p : GhostProtocol) → IsLawfulGhost p → IsSafeGhost p → (opening : Map) (h : List Entry) (s : GhostState) → Known p opening h s → (k : ℕ) → Known p opening h (purged p s k)
purges p laws safe opening h s g k = by (may_purge p s k) refl
  where
    by : (b : Bool) → may_purge p s k ≡ b → Known p opening h (if b then without_ghost p s k else s)
    by false none = g
    by true may =
        let both = and_one (is_ghost (stand s k) && not (has_change s.state k)) (lets_purge p.purges s.state.locks k) may in
        leaves p laws safe opening h s g k (and_one (is_ghost (stand s k)) (not (has_change s.state k)) both)
        (not_true (has_change s.state k) (and_two (is_ghost (stand s k)) (not (has_change s.state k)) both))
        p.purges refl laws.purges (and_two (is_ghost (stand s k) && not (has_change s.state k)) (lets_purge p.purges s.state.locks k) may)
