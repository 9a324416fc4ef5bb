-- A granted change of one key keeps what is known of the run: of a key that is a name, or of a new one.
use Rattle.std.specs.Prelude.{◌≡◌, ℕ, true, false, ◌&&◌, if◌then◌else◌, List, [], ◌∷◌, ◌++◌, Option, Some, None, refl, ◌⊎◌, is_some}
use Rattle.std.specs.Ordering.{nat_cmp}
use Rattle.std.specs.FinMap.{put}
use Rattle.std.proofs.Common.{sym, ◌∙◌, ap, subst, inl, inr, ⊎_elim, ◌≢◌, true≢false}
use Rattle.std.proofs.lemmas.Bool.{cases_eq}
use Rattle.kr_model.specs.declared.Name.{Name}
use Rattle.kr_model.specs.declared.Name.TheVariants.{Key}
use Rattle.kr_model.specs.declared.Row.TheVariants as row
use Rattle.kr_model.specs.declared.Side.TheVariants.{Current, Next}
use Rattle.kr_model.specs.declared.Op.{Op}
use Rattle.kr_model.specs.declared.Op.TheVariants as op
use Rattle.kr_model.specs.declared.Reply.{Reply}
use Rattle.kr_model.specs.declared.Reply.TheVariants as reply
use Rattle.kr_model.specs.Covers.{mode_after}
use Rattle.kr_model.specs.Locks.{Locks, own, blockers, kept}
use Rattle.kr_model.specs.Map.{Map, IsMap, get, set, restore, at}
use Rattle.kr_model.specs.State.{standing}
use Rattle.kr_model.specs.Step.{changed}
use Rattle.kr_model.specs.Run.{Entry, is_operation, is_granted, is_committed, answer_of}
use Rattle.kr_model.specs.Serial.{whole_insert, map_left}
use Rattle.kr_model.proofs.Actives.{tied}
use Rattle.kr_model.proofs.Guarantees.{in_right}
use Rattle.kr_model.proofs.LockLaws.{name_or_not}
use Rattle.kr_model.proofs.UndoLaws.{IsMap-restore}
use Rattle.kr_theorem.proofs.gaps.Gaps.{has, Alike}
use Rattle.kr_theorem.proofs.gaps.Moves.{has_apart, has_here}
use Rattle.kr_theorem.proofs.run.Programs.{joined, state_after}
use Rattle.kr_theorem.proofs.safe.Kept.{kept_append, here, elsewhere}
use Rattle.kr_theorem.proofs.step.Parts.{Part, Points, Touched, finished, with_part}
use Rattle.kr_theorem.proofs.step.Replay.{answer, after_op}
use Rattle.kr_ghost.specs.Protocol.{GhostProtocol}
use Rattle.kr_ghost.specs.State.{GhostState, named, ghosts_with}
use Rattle.kr_ghost.specs.Step.{on}
use Rattle.kr_ghost.specs.declared.cases.Cover.{Cover}
use Rattle.kr_ghost.specs.declared.cases.Cover.TheVariants.{ReadKey, ReadGap, ChangedKey}
use Rattle.kr_ghost.specs.Safe.{KeyUse, Hold, idle, free, is_changed, Ask, Insert, asked, keeps_out, MayAsk, present_after, and_changed, key_after, after, on_new_key, Beside, new}
use Rattle.kr_ghost.proofs.Names.{IsMap-named, written_here, written_apart}
use Rattle.kr_ghost.proofs.Grants.{Free, unblocked}
use Rattle.kr_ghost.proofs.Holding.{Holds, Protects, with_hold, hold_here, hold_apart, changed_changes, olds, Fits, fits_changed}
use Rattle.kr_ghost.proofs.Guarded.{Guarded, Taken, cover_name, cover_gap, change_step, insert_step}
use Rattle.kr_ghost.proofs.Invariant.{Invariant, having_changed, changing_touches, changing_changes, change_keeps}
use Rattle.kr_ghost.proofs.Locking.{row_mode, ask_mode, one_locks, not_key, not_at}
use Rattle.kr_ghost.proofs.Sim.{status, status_apart, as_was, Sim, sim_by}
use Rattle.kr_ghost.proofs.Asked.{asked_taken, asked_sim}
use Rattle.kr_ghost.proofs.Undone.{olds_apart}
use Rattle.kr_ghost.proofs.Added.{added_sim}
use Rattle.kr_ghost.proofs.Told.{StandsScan}
use Rattle.kr_ghost.proofs.Known.{Known, KnownAfter, goes, names_map, guards, range, not_rolling, same_changes, same_rolling}
use Rattle.kr_ghost.proofs.Turn.{locks_after, free_one, Turn, kept_out, reads_one, unscanned}

module _ (p : GhostProtocol) (opening : Map) (h : List Entry) (s : GhostState) (g : Known p opening h s) (t : ℕ) (turn : Turn p opening h s g t) where
  abbrev c : Map
  c = map_left opening (joined g.done)

  abbrev m : Map
  m = s.state.map

  abbrev e : Map
  e = named s.state.map s.ghosts

  abbrev l : Locks
  l = s.state.locks

  abbrev z : Sim p m e l g.part g.hold
  z = g.sim

  he : IsMap e
  he = names_map p opening h s g

  unrolled : (n : Name) → (g.hold t n).rolling ≡ false
  unrolled n = not_rolling p opening h s g t turn.unrolled n

  -- A key that is a name is changed, by a request that none who has read it lets in.
  pub change_granted : (o : Op) (a : Reply) (k : ℕ) (old b : Option ℕ) (ghosts : List ℕ) (r : Ask) (by : KeyUse) → has e k ≡ true → MayAsk p (has m k) (g.hold t (Key k)) r
      → is_some b ≡ present_after (has m k) r
      → key_after (has m k) (g.hold t (Key k)).key r ≡ and_changed by (g.hold t (Key k)).key → is_changed by ≡ true → Fits (old ∷ []) by
      → ((x : Hold) → Protects ReadKey x → keeps_out (has m k) x r ≡ true)
      → get m k ≡ old → after_op m o ≡ restore m k b → a ≡ answer m o → ((y : ℕ) → Points o y → y ≡ k) → ((y : ℕ) → y ≡ k → Points o y)
      → ((y : ℕ) → has (named (restore m k b) ghosts) y ≡ has e y)
      → (is_operation o && is_granted a) ≡ true → ((f : List Entry) → answer_of t o a f ≡ a) → is_committed a ≡ false
      → Free p.table (own l) t (Key k) (asked p r (own l t (Key k)))
      → KnownAfter p opening h t o (a, record { state = state_after s.state (restore m k b) (locks_after p s t (Key k) r) (put nat_cmp t (changed (standing s.state t) k old) s.state.active); ghosts = ghosts })
  change_granted o a k old b ghosts r by there may now kind changes fits_by keeps was is_after a_is point_is is_point names granted same no_commit grant =
      let i = g.inv in
      let m' : Map = restore m k b in
      let e' : Map = named m' ghosts in
      let modes = ask_mode p turn.laws r (own l t (Key k)) (range p opening h s g t (Key k)) in
      let state : Hold = after p (has m k) (g.hold t (Key k)) r in
      let hold' : Holds = with_hold g.hold t (Key k) state in
      let q : Part = having_changed m e g.hold g.part c i t e hold' turn.unrolled o k old in
      let untouched : (u : ℕ) → u ≢ t → Touched (g.part u) k → ⊥ =
      λ u ne touch. kept_out p opening h s g t turn (Key k) r may grant u ne (keeps (g.hold u (Key k)) (cover_name e g.hold g.part he (guards p opening h s g) u k touch there)) in
      let fits_k : Fits (olds ((k, old) ∷ (g.part t).changes) k) (key_after (has m k) (g.hold t (Key k)).key r) =
      subst (λ os. Fits os (key_after (has m k) (g.hold t (Key k)).key r)) (sym (ap (λ d. if d then old ∷ olds (g.part t).changes k else olds (g.part t).changes k) (tied k)))
      (subst (λ x. Fits (old ∷ olds (g.part t).changes k) x) (sym kind) (fits_changed by old (olds (g.part t).changes k) (g.hold t (Key k)).key fits_by (z.fits t (Key k)))) in
      let status_k : status m' (Key k) ≡ present_after (has m k) r = has_here m k b ∙ now in
      let taken : Taken g.hold hold' t = asked_taken p turn.laws m m' e e' l (range p opening h s g) g.part g.hold z t q (Key k) r may modes grant status_k
      (status_apart m k b) (λ y gone. sym (names y) ∙ gone) (λ y none. not_key e k y there none) refl fits_k (λ x ne. olds_apart (k, old) (g.part t).changes x ne) in
      let self : Protects ChangedKey (hold' t (Key k)) =
      subst (λ x. Protects ChangedKey x) (sym (hold_here g.hold t (Key k) state)) (ap is_changed kind ∙ changed_changes by (g.hold t (Key k)).key changes) in
      let guarded : Guarded e' hold' (with_part g.part t q) =
      change_step e e' he (IsMap-named m' ghosts (IsMap-restore m k b i.is_map)) g.hold hold' g.part t q (guards p opening h s g) taken k there names
      untouched self
      (changing_touches m e g.hold g.part c i t e hold' turn.unrolled o k old point_is is_point)
      (changing_changes m e g.hold g.part c i t e hold' turn.unrolled o k old) in
      goes p opening h s g t o a m' ghosts (locks_after p s t (Key k) r) (changed (standing s.state t) k old)
      (finished (g.part t) o a ((k, old) ∷ (g.part t).changes) (g.part t).moved) hold' turn.live no_commit
      (subst (λ z. Invariant m' e' hold' (with_part g.part t (finished (g.part t) o z ((k, old) ∷ (g.part t).changes) (g.part t).moved)) c) (sym a_is)
      (change_keeps m e g.hold g.part c i t e' hold' turn.unrolled (unscanned p opening h s g t turn) o k old b was is_after is_point untouched guarded))
      (asked_sim p turn.laws m m' e e' l (range p opening h s g) g.part g.hold z t (finished (g.part t) o a ((k, old) ∷ (g.part t).changes) (g.part t).moved)
      (Key k) r may modes grant status_k (status_apart m k b) (λ y gone. sym (names y) ∙ gone) (λ y none. not_key e k y there none) refl fits_k (λ x ne. olds_apart (k, old) (g.part t).changes x ne))
      (one_locks p turn.laws l g.locks t (Key k) (asked p r (own l t (Key k))) modes)
      (λ x. reads_one p opening h s g t turn o a granted same)
      (record {
        scan = subst (λ z. StandsScan None z) (sym turn.idle) tt;
        changes = ap (λ z. (k, old) ∷ z) (same_changes p opening h s g t turn.live);
        rolling = same_rolling p opening h s g t turn.live;
      })

  -- Granted where nobody blocks it.
  pub change : (o : Op) (a : Reply) (k : ℕ) (old b : Option ℕ) (ghosts : List ℕ) (r : Ask) (by : KeyUse) → has e k ≡ true → MayAsk p (has m k) (g.hold t (Key k)) r
      → is_some b ≡ present_after (has m k) r
      → key_after (has m k) (g.hold t (Key k)).key r ≡ and_changed by (g.hold t (Key k)).key → is_changed by ≡ true → Fits (old ∷ []) by
      → ((x : Hold) → Protects ReadKey x → keeps_out (has m k) x r ≡ true)
      → get m k ≡ old → after_op m o ≡ restore m k b → a ≡ answer m o → ((y : ℕ) → Points o y → y ≡ k) → ((y : ℕ) → y ≡ k → Points o y)
      → ((y : ℕ) → has (named (restore m k b) ghosts) y ≡ has e y)
      → (is_operation o && is_granted a) ≡ true → ((f : List Entry) → answer_of t o a f ≡ a) → is_committed a ≡ false
      → blockers p.table l t (on (Key k) (asked p r (own l t (Key k)))) ≡ []
      → KnownAfter p opening h t o (a, record { state = state_after s.state (restore m k b) (locks_after p s t (Key k) r) (put nat_cmp t (changed (standing s.state t) k old) s.state.active); ghosts = ghosts })
  change o a k old b ghosts r by there may now kind changes fits_by keeps was is_after a_is point_is is_point names granted same no_commit nobody =
      change_granted o a k old b ghosts r by there may now kind changes fits_by keeps was is_after a_is point_is is_point names granted same no_commit
      (free_one p opening h s g turn.laws t (Key k) r nobody)

  -- A key that is no name is inserted.
  module _ (k v : ℕ) (none : get m k ≡ None) (absent : has e k ≡ false)
      (unblocked_both : blockers p.table l t (on (Key k) (p.table.ask row.Insert Current (own l t (at e k))) ++ on (at e k) (p.table.ask row.Insert Next (own l t (at e k)))) ≡ []) where
    abbrev n : Name
    n = at e k

    abbrev o : ℕ
    o = own l t n

    abbrev l1 : Locks
    l1 = kept p.table l t (on (Key k) (p.table.ask row.Insert Current o))

    abbrev l2 : Locks
    l2 = kept p.table l1 t (on n (p.table.ask row.Insert Next o))

    abbrev m' : Map
    m' = set m k v

    abbrev ghosts : List ℕ
    ghosts = ghosts_with s.ghosts k (Some v)

    abbrev e' : Map
    e' = named m' ghosts

    other : Key k ≢ n
    other = not_at e he k k absent

    there : has e' k ≡ true
    there = written_here m s.ghosts k (Some v)

    alike : Alike k e e'
    alike y ne = written_apart m s.ghosts k (Some v) y ne

    grant : Free p.table (own l) t n (asked p Insert o)
    grant =
        let w = g.locks in
        unblocked p.table turn.laws.table l t (on (Key k) (p.table.ask row.Insert Current o) ++ on n (p.table.ask row.Insert Next o)) w.within unblocked_both n
        (p.table.ask row.Insert Next o) (row_mode p turn.laws row.Insert Next o (range p opening h s g t n))
        (λ r j. in_right r (on (Key k) (p.table.ask row.Insert Current o)) (on n (p.table.ask row.Insert Next o)) j)

    -- Nobody else has read the gap.
    unread : (u : ℕ) → u ≢ t → Protects ReadGap (g.hold u n) → ⊥
    unread u ne reads = kept_out p opening h s g t turn n Insert (unrolled n) grant u ne reads

    untouched : (u : ℕ) → u ≢ t → Touched (g.part u) k → ⊥
    untouched u ne touch = unread u ne (cover_gap e g.hold g.part (guards p opening h s g) u k touch absent)

    -- The next name first: a request like any other.
    abbrev between : Holds
    between = with_hold g.hold t n (after p (status m n) (g.hold t n) Insert)

    between_sim : Sim p m e (locks_after p s t n Insert) (with_part g.part t (g.part t)) between
    between_sim =
        asked_sim p turn.laws m m e e l (range p opening h s g) g.part g.hold z t (g.part t) n Insert (unrolled n)
        (ask_mode p turn.laws Insert o (range p opening h s g t n)) grant refl (λ x ne. refl) (λ y gone. gone) (λ y gone. not_at e he k y gone) refl (z.fits t n) (λ x ne. refl)

    abbrev new_state : Hold
    new_state = on_new_key p (g.hold t n)

    abbrev hold' : Holds
    hold' = with_hold between t (Key k) new_state

    none_on : own l t (Key k) ≡ 0
    none_on = sym (z.mode t (Key k)) ∙ ap (λ (x : Hold). x.mode) (z.none t k absent)

    on_key : new_state.mode ≡ own l2 t (Key k)
    on_key = ap (λ x. mode_after p.table 0 (p.table.ask row.Insert Current x)) (z.mode t n)
        ∙ sym (elsewhere p.table l1 t n (p.table.ask row.Insert Next o) t (Key k) (λ both. other both.1) ∙ here p.table l t (Key k) (p.table.ask row.Insert Current o) ∙ ap
        (λ x. mode_after p.table x (p.table.ask row.Insert Current o)) none_on)

    -- The two requests touch two names, so it doesn't matter which is kept first.
    kept_alike : (u : ℕ) (x : Name) → ((u ≡ t) × (x ≡ Key k) → ⊥) → own l2 u x ≡ own (locks_after p s t n Insert) u x
    kept_alike u x out = at_n u x out (both_or_not u x)
      where
        first : (u : ℕ) (x : Name) → ((u ≡ t) × (x ≡ Key k) → ⊥) → own l1 u x ≡ own l u x
        first u x out = elsewhere p.table l t (Key k) (p.table.ask row.Insert Current o) u x out

        both_or_not : (u : ℕ) (x : Name) → ((u ≡ t) × (x ≡ n)) ⊎ ((u ≡ t) × (x ≡ n) → ⊥)
        both_or_not u x = ⊎_elim (λ a. ⊎_elim (λ b. inl (a, b)) (λ d. inr (λ both. d both.1)) (name_or_not x n)) (λ d. inr (λ both. d both.0)) (cases_eq u t)

        at_n : (u : ℕ) (x : Name) → ((u ≡ t) × (x ≡ Key k) → ⊥) → ((u ≡ t) × (x ≡ n)) ⊎ ((u ≡ t) × (x ≡ n) → ⊥) → own l2 u x ≡ own (locks_after p s t n Insert) u x
        at_n u x out (inl both) =
            subst (λ y. own l2 y x ≡ own (locks_after p s t n Insert) y x) (sym both.0) (subst (λ y. own l2 t y ≡ own (locks_after p s t n Insert) t y) (sym both.1)
            (here p.table l1 t n (p.table.ask row.Insert Next o) ∙ ap (λ y. mode_after p.table y (p.table.ask row.Insert Next o)) (first t n (λ b. other (sym b.1))) ∙ sym
            (here p.table l t n (p.table.ask row.Insert Next o))))
        at_n u x out (inr d) = elsewhere p.table l1 t n (p.table.ask row.Insert Next o) u x d ∙ first u x out ∙ sym (elsewhere p.table l t n (p.table.ask row.Insert Next o) u x d)

    abbrev q : Part
    q = finished (g.part t) (op.Insert k v) reply.Done ((k, None) ∷ (g.part t).changes) (g.part t).moved

    beside_new : Beside p true new_state free
    beside_new = new (status m n) (g.hold t n) (z.alone t n) (unrolled n)

    plain_sim : Sim p m e (locks_after p s t n Insert) g.part between
    plain_sim =
        sim_by p m e (locks_after p s t n Insert) (with_part g.part t (g.part t)) g.part between (λ u. ap (λ (x : Part). x.changes) (sym (as_was g.part t u)))
        (λ u. ap (λ (x : Part). x.rolling) (sym (as_was g.part t u))) between_sim

    gone_before : (y : ℕ) → has e' y ≡ false → (y ≢ k) × (has e y ≡ false)
    gone_before y gone = let ne : y ≢ k = λ is. true≢false (sym there ∙ sym (ap (has e') is) ∙ gone) in (ne, sym (alike y ne) ∙ gone)

    new_sim : Sim p m' e' l2 (with_part g.part t q) hold'
    new_sim = added_sim p m m' e e' (locks_after p s t n Insert) l2 g.part between plain_sim t q k new_state absent (has_here m k (Some v)) (λ y ne. has_apart m k (Some v) y ne) gone_before
        beside_new refl (sym turn.unrolled) refl refl on_key kept_alike

    taken : Taken g.hold hold' t
    taken =
        let first = asked_taken p turn.laws m m e e l (range p opening h s g) g.part g.hold z t (g.part t) n Insert (unrolled n)
        (ask_mode p turn.laws Insert o (range p opening h s g t n)) grant refl (λ x ne. refl) (λ y gone. gone) (λ y gone. not_at e he k y gone) refl (z.fits t n) (λ x ne. refl) in
        record {
          others = λ u ne x. hold_apart between t (Key k) new_state u x (λ both. ne both.0) ∙ first.others u ne x;
          keeps = λ x d held. ⊎_elim
              (λ is. absurd (nothing d (subst (λ y. Protects d y) (ap (g.hold t) is ∙ z.none t k absent) held)))
              (λ ne. subst (λ y. Protects d y) (sym (hold_apart between t (Key k) new_state t x (λ both. ne both.1))) (first.keeps x d held))
              (name_or_not x (Key k));
        }
      where
        nothing : (d : Cover) → Protects d (idle (g.part t).rolling) → ⊥
        nothing ReadKey held = absurd (cc)
        nothing ReadGap held = absurd (cc)
        nothing ChangedKey held = absurd (cc)

    on_new : hold' t (Key k) ≡ new_state
    on_new = hold_here between t (Key k) new_state

    -- The insert of a key that is no name, granted on the key and on the next name.
    pub new_key : KnownAfter p opening h t (op.Insert k v) (
      reply.Done,
      record {
        state =
            state_after s.state m' (kept p.table l t (on (Key k) (p.table.ask row.Insert Current o) ++ on n (p.table.ask row.Insert Next o)))
            (put nat_cmp t (changed (standing s.state t) k None) s.state.active);
        ghosts = ghosts;
      },
    )
    new_key =
        let i = g.inv in
        let locks1 = one_locks p turn.laws l g.locks t (Key k) (p.table.ask row.Insert Current o) (row_mode p turn.laws row.Insert Current o (range p opening h s g t n)) in
        let guarded : Guarded e' hold' (with_part g.part t (having_changed m e g.hold g.part c i t e' hold' turn.unrolled (op.Insert k v) k None)) =
        insert_step e e' he (IsMap-named m' ghosts (IsMap-restore m k (Some v) i.is_map)) g.hold hold' g.part t
        (having_changed m e g.hold g.part c i t e' hold' turn.unrolled (op.Insert k v) k None) (guards p opening h s g) taken k absent there alike unread
        (subst (λ x. Protects ChangedKey x) (sym on_new) refl)
        (λ reads. subst (λ x. Protects ReadGap x) (sym on_new) reads)
        (changing_touches m e g.hold g.part c i t e' hold' turn.unrolled (op.Insert k v) k None (λ y is. is) (λ y is. is))
        (changing_changes m e g.hold g.part c i t e' hold' turn.unrolled (op.Insert k v) k None) in
        subst (λ x. KnownAfter p opening h t (op.Insert k v)
        (reply.Done, record { state = state_after s.state m' x (put nat_cmp t (changed (standing s.state t) k None) s.state.active); ghosts = ghosts }))
        (sym (kept_append p.table l t (on (Key k) (p.table.ask row.Insert Current o)) (on n (p.table.ask row.Insert Next o))))
        (goes p opening h s g t (op.Insert k v) reply.Done m' ghosts l2 (changed (standing s.state t) k None) q hold' turn.live refl
        (subst (λ x. Invariant m' e' hold' (with_part g.part t (finished (g.part t) (op.Insert k v) x ((k, None) ∷ (g.part t).changes) (g.part t).moved)) c) (ap (λ x. (whole_insert m k v x).0) none)
        (change_keeps m e g.hold g.part c i t e' hold' turn.unrolled (unscanned p opening h s g t turn) (op.Insert k v) k None (Some v) none
        (ap (λ x. (whole_insert m k v x).1) none) (λ y is. is) untouched guarded))
        new_sim
        (one_locks p turn.laws l1 locks1 t n (p.table.ask row.Insert Next o) (row_mode p turn.laws row.Insert Next o (range p opening h s g t n)))
        (λ x. reads_one p opening h s g t turn (op.Insert k v) reply.Done refl (λ f. refl))
        (record {
          scan = subst (λ x. StandsScan None x) (sym turn.idle) tt;
          changes = ap (λ x. (k, None) ∷ x) (same_changes p opening h s g t turn.live);
          rolling = same_rolling p opening h s g t turn.live;
        }))
