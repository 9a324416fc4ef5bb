-- A lock on the next name that is granted with one on a key, and of which no cover needs anything, keeps what is known of the run.
use Rattle.std.specs.Prelude.{◌≡◌, ℕ, Bool, false, suc, List, [], ◌++◌, Option, refl}
use Rattle.std.proofs.Common.{sym, ◌∙◌, ap, subst, ⊎_elim, ◌≢◌, arith}
use Rattle.std.proofs.lemmas.Bool.{cases_eq}
use Rattle.kr_model.specs.declared.Name.{Name}
use Rattle.kr_model.specs.declared.Name.TheVariants.{Key}
use Rattle.kr_model.specs.declared.Span.{Span}
use Rattle.kr_model.specs.Covers.{conflicts_with, mode_after}
use Rattle.kr_model.specs.Locks.{Locks, Request, own, blockers, kept}
use Rattle.kr_model.specs.Map.{Map, IsMap, at}
use Rattle.kr_model.specs.State.{Active}
use Rattle.kr_model.specs.Run.{Entry}
use Rattle.kr_model.proofs.Guarantees.{In, in_left, in_right}
use Rattle.kr_model.proofs.LockLaws.{name_or_not}
use Rattle.kr_model.proofs.Requests.{AreLocks}
use Rattle.kr_theorem.proofs.gaps.Gaps.{has, at-key}
use Rattle.kr_theorem.proofs.run.Programs.{state_after}
use Rattle.kr_theorem.proofs.safe.Kept.{kept_append, here, elsewhere}
use Rattle.kr_theorem.proofs.step.Parts.{Part, with_part}
use Rattle.kr_ghost.specs.Protocol.{GhostProtocol, AsksMode}
use Rattle.kr_ghost.specs.State.{GhostState, named}
use Rattle.kr_ghost.specs.Step.{on}
use Rattle.kr_ghost.specs.declared.cases.Cover.{Cover}
use Rattle.kr_ghost.specs.declared.cases.Cover.TheVariants.{ChangedKey}
use Rattle.kr_ghost.specs.Safe.{KeyUse, Hold, Ask, asked, MayAsk, present_after, key_after, after}
use Rattle.kr_ghost.proofs.Grants.{Free, unblocked}
use Rattle.kr_ghost.proofs.Holding.{Holds, Protects, with_hold, olds_at, Fits}
use Rattle.kr_ghost.proofs.Guarded.{read_cover, Guarded, Taken}
use Rattle.kr_ghost.proofs.Locking.{ask_mode, one_locks, not_at}
use Rattle.kr_ghost.proofs.Sim.{status, as_was, Sim, sim_by}
use Rattle.kr_ghost.proofs.Asked.{asked_taken, asked_sim}
use Rattle.kr_ghost.proofs.Told.{retold}
use Rattle.kr_ghost.proofs.Known.{Known, names_map, guards, range, not_rolling}
use Rattle.kr_ghost.proofs.Turn.{locks_after, Turn}

-- Only what is held on each name counts.
relocked : (p : GhostProtocol) (opening : Map) (h : List Entry) (s : GhostState) (l : Locks) → AreLocks p.table l → ((u : ℕ) (n : Name) → own s.state.locks u n ≡ own l u n)
    → Known p opening h s → Known p opening h (record { state = state_after s.state s.state.map l s.state.active; ghosts = s.ghosts })
relocked p opening h s l locks same g =
    let z = g.sim in
    record {
      part = g.part;
      done = g.done;
      answered = g.answered;
      hold = g.hold;
      inv = g.inv;
      sim = record { mode = λ u n. z.mode u n ∙ same u n; rolls = z.rolls; none = z.none; fits = z.fits; alone = z.alone; beside = z.beside };
      locks = locks;
      told = retold h s.state g.part g.done s.state.map l g.told;
    }

-- The requests of t of a key k that is a name and, by the ask r, of the next name.
module _ (p : GhostProtocol) (opening : Map) (h : List Entry) (s : GhostState) (g : Known p opening h s) (t : ℕ) (turn : Turn p opening h s g t)
    (k : ℕ) (one : Option (ℕ × Span)) (one_mode : AsksMode p.table one) (r : Ask)
    (may : (b : Bool) (x : Hold) → x.rolling ≡ false → MayAsk p b x r) (stays_so : (b : Bool) → present_after b r ≡ b) (untouched : (b : Bool) (u : KeyUse) → key_after b u r ≡ u) where
  abbrev m : Map
  m = s.state.map

  abbrev e : Map
  e = named s.state.map s.ghosts

  abbrev l : Locks
  l = s.state.locks

  abbrev z : Sim p m e l g.part g.hold
  z = g.sim

  abbrev n : Name
  n = at e (suc k)

  abbrev two : Option (ℕ × Span)
  two = asked p r (own l t n)

  he : IsMap e
  he = names_map p opening h s g

  other : n ≢ Key k
  other is = let w = at-key e (suc k) k he is in omega (arith, w.0)

  pub two_mode : AsksMode p.table two
  two_mode = ask_mode p turn.laws r (own l t n) (range p opening h s g t n)

  module _ (unblocked_both : blockers p.table l t (on (Key k) one ++ on n two) ≡ []) where
    granted : (x : Name) (request : Option (ℕ × Span)) → AsksMode p.table request → ((q : Request) → In q (on x request) → In q (on (Key k) one ++ on n two)) → Free p.table (own l) t x request
    granted x request mode inside = let w = g.locks in unblocked p.table turn.laws.table l t (on (Key k) one ++ on n two) w.within unblocked_both x request mode inside

    grant_one : Free p.table (own l) t (Key k) one
    grant_one = granted (Key k) one one_mode (λ q i. in_left q (on (Key k) one) (on n two) i)

    grant_two : Free p.table (own l) t n two
    grant_two = granted n two two_mode (λ q i. in_right q (on (Key k) one) (on n two) i)

    -- The next name first: a request that reads and changes nothing.
    abbrev l1 : Locks
    l1 = locks_after p s t n r

    abbrev pub locked_next : GhostState
    locked_next = record { state = state_after s.state m l1 s.state.active; ghosts = s.ghosts }

    abbrev between : Holds
    between = with_hold g.hold t n (after p (status m n) (g.hold t n) r)

    may_now : MayAsk p (status m n) (g.hold t n) r
    may_now = may (status m n) (g.hold t n) (not_rolling p opening h s g t turn.unrolled n)

    fits_now : Fits (olds_at (g.part t).changes n) (key_after (status m n) (g.hold t n).key r)
    fits_now = subst (λ u. Fits (olds_at (g.part t).changes n) u) (sym (untouched (status m n) (g.hold t n).key)) (z.fits t n)

    taken : Taken g.hold between t
    taken =
        asked_taken p turn.laws m m e e l (range p opening h s g) g.part g.hold z t (g.part t) n r may_now two_mode grant_two (sym (stays_so (status m n)))
        (λ x ne. refl) (λ y gone. gone) (λ y gone. not_at e he (suc k) y gone) refl fits_now (λ x ne. refl)

    pub between_sim : Sim p m e l1 (with_part g.part t (g.part t)) between
    between_sim =
        asked_sim p turn.laws m m e e l (range p opening h s g) g.part g.hold z t (g.part t) n r may_now two_mode grant_two (sym (stays_so (status m n)))
        (λ x ne. refl) (λ y gone. gone) (λ y gone. not_at e he (suc k) y gone) refl fits_now (λ x ne. refl)

    -- All that was protected is.
    still : (u : ℕ) (c : Cover) (x : Name) → Protects c (g.hold u x) → Protects c (between u x)
    still u c x held = ⊎_elim
        (λ is. subst (λ w. Protects c (between w x)) (sym is) (taken.keeps x c (subst (λ w. Protects c (g.hold w x)) is held)))
        (λ ne. subst (λ y. Protects c y) (sym (taken.others u ne x)) held)
        (cases_eq u t)

    pub guarded : Guarded e between g.part
    guarded =
        let w = guards p opening h s g in
        record {
          named = w.named;
          cover = λ u y touch. still u (read_cover (has e y)) (at e y) (w.cover u y touch);
          change = λ u y c. still u ChangedKey (Key y) (w.change u y c);
          alone = w.alone;
        }

    -- So the same is known with that lock.
    abbrev pub knows_next : Known p opening h locked_next
    knows_next =
        let i = g.inv in
        record {
          part = g.part;
          done = g.done;
          answered = g.answered;
          hold = between;
          inv = record { is_map = i.is_map; is_committed_map = i.is_committed_map; guarded = guarded; rolled = i.rolled; replay = i.replay; scan = i.scan; committed = i.committed };
          sim = sim_by p m e l1 (with_part g.part t (g.part t)) g.part between (λ u. ap (λ (x : Part). x.changes) (sym (as_was g.part t u)))
              (λ u. ap (λ (x : Part). x.rolling) (sym (as_was g.part t u))) between_sim;
          locks = one_locks p turn.laws l g.locks t n two two_mode;
          told = retold h s.state g.part g.done m l1 g.told;
        }

    pub turn_next : Turn p opening h locked_next knows_next t
    turn_next = record { laws = turn.laws; safe = turn.safe; live = turn.live; unrolled = turn.unrolled; quiet = turn.quiet; idle = turn.idle }

    -- Then the key: what is held there is as before.
    same_key : (u : ℕ) → own l1 u (Key k) ≡ own l u (Key k)
    same_key u = elsewhere p.table l t n two u (Key k) (λ b. other (sym b.1))

    pub free_key : Free p.table (own l1) t (Key k) one
    free_key u ne = ap (λ x. conflicts_with p.table x (own l1 t (Key k)) one) (same_key u) ∙ ap (λ o. conflicts_with p.table (own l u (Key k)) o one) (same_key t) ∙ grant_one u ne

    abbrev l2 : Locks
    l2 = kept p.table l1 t (on (Key k) one)

    -- The two requests touch two names, so it doesn't matter which is kept first.
    abbrev first : Locks
    first = kept p.table l t (on (Key k) one)

    abbrev both : Locks
    both = kept p.table first t (on n two)

    on_key : own l2 t (Key k) ≡ own both t (Key k)
    on_key = here p.table l1 t (Key k) one ∙ ap (λ x. mode_after p.table x one) (same_key t)
        ∙ sym (elsewhere p.table first t n two t (Key k) (λ b. other (sym b.1)) ∙ here p.table l t (Key k) one)

    on_next : own l2 t n ≡ own both t n
    on_next = elsewhere p.table l1 t (Key k) one t n (λ b. other b.1) ∙ here p.table l t n two
        ∙ sym (here p.table first t n two ∙ ap (λ x. mode_after p.table x two) (elsewhere p.table l t (Key k) one t n (λ b. other b.1)))

    kept_alike : (u : ℕ) (x : Name) → own l2 u x ≡ own both u x
    kept_alike u x = ⊎_elim
        (λ is. subst (λ w. own l2 w x ≡ own both w x) (sym is) (⊎_elim
        (λ at_k. subst (λ w. own l2 t w ≡ own both t w) (sym at_k) on_key)
        (λ not_k. ⊎_elim
        (λ at_n. subst (λ w. own l2 t w ≡ own both t w) (sym at_n) on_next)
        (λ not_n. apart t x (λ b. not_k b.1) (λ b. not_n b.1))
        (name_or_not x n))
        (name_or_not x (Key k))))
        (λ ne. apart u x (λ b. ne b.0) (λ b. ne b.0))
        (cases_eq u t)
      where
        apart : (u : ℕ) (x : Name) → ((u ≡ t) × (x ≡ Key k) → ⊥) → ((u ≡ t) × (x ≡ n) → ⊥) → own l2 u x ≡ own both u x
        apart u x no_key no_next = elsewhere p.table l1 t (Key k) one u x no_key ∙ elsewhere p.table l t n two u x no_next
            ∙ sym (elsewhere p.table first t n two u x no_next ∙ elsewhere p.table l t (Key k) one u x no_key)

    both_locks : AreLocks p.table both
    both_locks = one_locks p turn.laws first (one_locks p turn.laws l g.locks t (Key k) one one_mode) t n two two_mode

    -- What is known of a state with the locks of the two requests, one after the other.
    pub knows_both : (f : List Entry) (map : Map) (active : List (ℕ × Active)) (ghosts : List ℕ) → Known p opening f (record { state = state_after s.state map l2 active; ghosts = ghosts })
        → Known p opening f (record { state = state_after s.state map (kept p.table l t (on (Key k) one ++ on n two)) active; ghosts = ghosts })
    knows_both f map active ghosts known =
        subst (λ x. Known p opening f (record { state = state_after s.state map x active; ghosts = ghosts }))
        (sym (kept_append p.table l t (on (Key k) one) (on n two)))
        (relocked p opening f (record { state = state_after s.state map l2 active; ghosts = ghosts }) both both_locks kept_alike known)
