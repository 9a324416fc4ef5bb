-- The invariant of a run with ghosts: what the lock states guard, and that each program replays on the committed map.
use Rattle.std.specs.Prelude.{◌≡◌, ℕ, true, false, ◌∷◌, Option, Some, None, refl, ◌⊎◌}
use Rattle.std.proofs.Common.{sym, ◌∙◌, ap, subst, inl, inr, ⊎_elim, ◌≢◌, true≢false}
use Rattle.kr_model.specs.declared.Op.{Op}
use Rattle.kr_model.specs.Map.{Map, IsMap, Changes, get, restore, restore_all}
use Rattle.kr_model.specs.Serial.{AreAnswered, map_left}
use Rattle.kr_model.proofs.UndoLaws.{IsMap-restore, IsMap-restore_all}
use Rattle.kr_theorem.proofs.gaps.Maps.{between_same}
use Rattle.kr_theorem.proofs.gaps.Undo.{ChangedIn, restore_apart, restore_back, restore_all_apart}
use Rattle.kr_theorem.proofs.step.Parts.{Progress, Part, Parts, blank, changed_touched, rolling_with, rolling_touched, Points, Touched, Scanned, Changed, finished_touches, finished_old, with_part, by_part}
use Rattle.kr_theorem.proofs.step.Replay.{answer, after_op, Replays, replays_stable, replays_going, replays_finished, Committed, commit_serial, IsMap-map_left}
use Rattle.kr_theorem.proofs.step.Invariant.{HasRead, committed_change, committed_undo, committed_back, committed_same}
use Rattle.kr_theorem.proofs.step.WriteKeeps.{changing}
use Rattle.kr_theorem.proofs.step.ReadKeeps.{reading, scanning}
use Rattle.kr_ghost.proofs.Guarded.{Guarded}
use Rattle.kr_ghost.proofs.Holding.{Holds}

-- The invariant of the present map m, the names e, the lock states, the parts and the committed map c.
pub record Invariant (m e : Map) (hold : Holds) (part : Parts) (c : Map) : Type 0 where
  pub is_map : IsMap m
  pub is_committed_map : IsMap c
  pub guarded : Guarded e hold part
  -- who rolls back touches its changes left alone
  pub rolled : (t k : ℕ) → (part t).rolling ≡ true → Touched (part t) k → Changed (part t) k
  -- each other program replays, and each scan has read what lies in its range so far
  pub replay : (t : ℕ) → (part t).rolling ≡ false → Replays m (part t)
  pub scan : (t : ℕ) → HasRead m (part t).scan
  -- the present map is the committed one but for the changes of the active transactions
  pub committed : Committed m c part

-- What a scan has read stays where no value in it changes.
scan_stable : (m n : Map) (s : Option Progress) → IsMap m → IsMap n → ((k : ℕ) → Scanned s k → get n k ≡ get m k) → HasRead m s → HasRead n s
scan_stable m n None hm hn same h = tt
scan_stable m n (Some s) hm hn same h = (h.0, h.1, h.2 ∙ between_same m n s.low s.last hm hn (λ q a b. sym (same q (a, b))))

module _ (m e : Map) (hold : Holds) (part : Parts) (c : Map) (i : Invariant m e hold part c) (t : ℕ) where
  -- One step of t: it changes no value at a point that another touched.
  pub invariant_stepped : (n e' : Map) (hold' : Holds) (c' : Map) (q : Part) → IsMap n → IsMap c'
      → ((u k : ℕ) → u ≢ t → Touched (part u) k → get n k ≡ get m k)
      → Guarded e' hold' (with_part part t q)
      → ((k : ℕ) → q.rolling ≡ true → Touched q k → Changed q k)
      → (q.rolling ≡ false → Replays n q)
      → HasRead n q.scan
      → Committed n c' (with_part part t q)
      → Invariant n e' hold' (with_part part t q) c'
  invariant_stepped n e' hold' c' q hn hc values guarded rolled replay scan committed = record {
    is_map = hn;
    is_committed_map = hc;
    guarded = guarded;
    rolled = by_part (λ u x. (k : ℕ) → x.rolling ≡ true → Touched x k → Changed x k) part t q rolled (λ u ne k. i.rolled u k);
    replay = by_part (λ u x. x.rolling ≡ false → Replays n x) part t q replay (λ u ne live. replays_stable m n (part u) (changed_touched (part u)) (λ k touch. values u k ne touch) (i.replay u live));
    scan = by_part (λ u x. HasRead n x.scan) part t q scan (λ u ne. scan_stable m n (part u).scan i.is_map hn (λ k s. values u k ne (inr (inl s))) (i.scan u));
    committed = committed;
  }

  -- Reads --

  module _ (e' : Map) (hold' : Holds) (unrolled : (part t).rolling ≡ false) where
    -- An operation that changes nothing has its answer.
    pub read_keeps : (o : Op) → after_op m o ≡ m → ((k : ℕ) → Scanned (part t).scan k → Points o k)
        → Guarded e' hold' (with_part part t (reading m (part t) o))
        → Invariant m e' hold' (with_part part t (reading m (part t) o)) c
    read_keeps o still inside guarded =
        let before = part t in
        let old : (k : ℕ) → Touched before k → Touched (reading m before o) k = finished_old before o (answer m o) before.changes before.moved inside (λ k h. h) in
        invariant_stepped m e' hold' c (reading m before o) i.is_map i.is_committed_map (λ u k ne touch. refl) guarded
        (λ k rolling. absurd (true≢false (sym rolling ∙ unrolled)))
        (λ live. subst (λ z. Replays z (reading m before o)) still (replays_finished m before o before.changes before.moved i.is_map old
        (λ k. ap (λ z. get (restore_all z before.changes) k) still) (λ k h. h) (λ k h. inl h) (λ k out. ap (λ z. get z k) still) (i.replay t live)))
        tt
        (committed_same m part c t (reading m before o) refl i.committed)

    -- It touches no points but its own.
    pub reading_touches : (o : Op) (k : ℕ) → Touched (reading m (part t) o) k → (Touched (part t) k) ⊎ Points o k
    reading_touches o k h = finished_touches (part t) o (answer m o) (part t).changes (part t).moved (λ y c. inl c) k h

    -- A scan goes on.
    pub going_keeps : (s : Progress) → ((k : ℕ) → Scanned (part t).scan k → Scanned (Some s) k) → HasRead m (Some s)
        → Guarded e' hold' (with_part part t (scanning (part t) s))
        → Invariant m e' hold' (with_part part t (scanning (part t) s)) c
    going_keeps s grows right guarded =
        let q = scanning (part t) s in
        let old : (k : ℕ) → Touched (part t) k → Touched q k = λ k h. ⊎_elim (λ tp. inl tp) (λ rest. ⊎_elim (λ sc. inr (inl (grows k sc))) (λ c. inr (inr c)) rest) h in
        invariant_stepped m e' hold' c q i.is_map i.is_committed_map (λ u k ne touch. refl) guarded
        (λ k rolling. absurd (true≢false (sym rolling ∙ unrolled)))
        (λ live. replays_going m (part t) q refl refl old (i.replay t live)) right
        (committed_same m part c t q refl i.committed)

    -- It touches no points but those that the scan has looked at.
    pub going_touches : (s : Progress) (k : ℕ) → Touched (scanning (part t) s) k → (Touched (part t) k) ⊎ Scanned (Some s) k
    going_touches s k h = ⊎_elim (λ tp. inl (inl tp)) (λ rest. ⊎_elim (λ sc. inr sc) (λ c. inl (inr (inr c))) rest) h

    -- Changes --

    -- The part of t after it has changed k, where `old` stood.
    abbrev pub having_changed : Op → ℕ → Option ℕ → Part
    having_changed o k old = changing m (part t) o k old (part t).moved

    -- The change touches and changes no key but k.
    pub changing_touches : (o : Op) (k : ℕ) (old : Option ℕ) → ((y : ℕ) → Points o y → y ≡ k) → ((y : ℕ) → y ≡ k → Points o y) → (y : ℕ)
        → Touched (having_changed o k old) y → (Touched (part t) y) ⊎ (y ≡ k)
    changing_touches o k old point_is is_point y h =
        ⊎_elim (λ a. inl a) (λ here. inr (point_is y here))
        (finished_touches (part t) o (answer m o) ((k, old) ∷ (part t).changes) (part t).moved (λ z c. ⊎_elim (λ is. inr (is_point z is)) (λ older. inl older) c) y h)

    pub changing_changes : (o : Op) (k : ℕ) (old : Option ℕ) (y : ℕ) → Changed (having_changed o k old) y → (Changed (part t) y) ⊎ (y ≡ k)
    changing_changes o k old y h = ⊎_elim (λ is. inr is) (λ older. inl older) h

    -- An operation changes k, where `old` stood, and leaves b there. No other has touched k.
    pub change_keeps : ((y : ℕ) → Scanned (part t).scan y → ⊥) → (o : Op) (k : ℕ) (old b : Option ℕ) → get m k ≡ old → after_op m o ≡ restore m k b
        → ((y : ℕ) → y ≡ k → Points o y)
        → ((u : ℕ) → u ≢ t → Touched (part u) k → ⊥)
        → Guarded e' hold' (with_part part t (having_changed o k old))
        → Invariant (restore m k b) e' hold' (with_part part t (having_changed o k old)) c
    change_keeps quiet o k old b was is_after is_point untouched guarded =
        let n = restore m k b in
        let before = part t in
        let q : Part = having_changed o k old in
        let fresh : (u : ℕ) → u ≢ t → Changed (part u) k → ⊥ = λ u ne d. untouched u ne (changed_touched (part u) k d) in
        let restored : restore_all n q.changes ≡ restore_all m before.changes =
        ap (λ x. restore_all (restore n k x) before.changes) (sym was) ∙ ap (λ z. restore_all z before.changes) (restore_back m k b i.is_map) in
        invariant_stepped n e' hold' c q (IsMap-restore m k b i.is_map) i.is_committed_map
        (λ u y ne touch. restore_apart m k b y (λ is. untouched u ne (subst (λ z. Touched (part u) z) is touch)))
        guarded
        (λ y rolling. absurd (true≢false (sym rolling ∙ unrolled)))
        (λ live. subst (λ z. Replays z q) is_after (replays_finished m before o q.changes q.moved i.is_map
        (finished_old before o (answer m o) q.changes q.moved (λ y sc. absurd (quiet y sc)) (λ y c. inr c))
        (λ y. ap (λ z. get (restore_all z q.changes) y) is_after ∙ ap (λ z. get z y) restored)
        (λ y older. inr older)
        (λ y c. ⊎_elim (λ is. inr (is_point y is)) (λ older. inl older) c)
        (λ y out. ap (λ z. get z y) is_after ∙ restore_apart m k b y (λ is. out (inl is)))
        (i.replay t live)))
        tt
        (committed_change m part c t q k b i.is_map (ap (λ x. (k, x) ∷ before.changes) (sym was)) fresh i.committed)

  -- Ends --

  -- Nothing has to be replayed of a transaction that is over.
  blank_replays : (n : Map) → Replays n blank
  blank_replays n d hd agree = (tt, (λ k h. absurd h), (λ k h. refl))

  -- At its commit the program has its answers on the committed map.
  pub commit_keeps : (e' : Map) (hold' : Holds) → (part t).rolling ≡ false → Guarded e' hold' (with_part part t blank)
      → AreAnswered c (part t).program × Invariant m e' hold' (with_part part t blank) (map_left c (part t).program)
  commit_keeps e' hold' live guarded =
      let g = i.guarded in
      let s = commit_serial m c part t i.is_committed_map (i.replay t live) i.committed (changed_touched (part t)) (λ u k ne touch changed. g.alone u t k (λ is. ne (sym is)) touch changed) in (
        s.0,
        invariant_stepped m e' hold' (map_left c (part t).program) blank i.is_map (IsMap-map_left c (part t).program i.is_committed_map) (λ u k ne touch. refl)
            guarded (λ k rolling. absurd (true≢false (sym rolling))) (λ l. blank_replays m) tt s.1,
      )

  -- An abort takes the changes back.
  pub abort_keeps : (e' : Map) (hold' : Holds) → Guarded e' hold' (with_part part t blank) → Invariant (restore_all m (part t).changes) e' hold' (with_part part t blank) c
  abort_keeps e' hold' guarded =
      let g = i.guarded in
      let n = restore_all m (part t).changes in
      invariant_stepped n e' hold' c blank (IsMap-restore_all m (part t).changes i.is_map) i.is_committed_map
      (λ u k ne touch. restore_all_apart m (part t).changes k (λ changed. g.alone t u k ne touch changed))
      guarded (λ k rolling. absurd (true≢false (sym rolling))) (λ l. blank_replays n) tt (committed_undo m part c t i.committed)

  -- The newest change of t is undone.
  pub back_keeps : (e' : Map) (hold' : Holds) (x : ℕ × Option ℕ) (cs : Changes) → (part t).changes ≡ x ∷ cs
      → Guarded e' hold' (with_part part t (rolling_with (restore m x.0 x.1) cs))
      → Invariant (restore m x.0 x.1) e' hold' (with_part part t (rolling_with (restore m x.0 x.1) cs)) c
  back_keeps e' hold' x cs is guarded =
      let g = i.guarded in
      let n = restore m x.0 x.1 in
      invariant_stepped n e' hold' c (rolling_with n cs) (IsMap-restore m x.0 x.1 i.is_map) i.is_committed_map
      (λ u k ne touch. restore_apart m x.0 x.1 k (λ same. g.alone t u k ne touch (subst (λ l. ChangedIn l k) (sym is) (inl same))))
      guarded
      (λ k rolling touch. rolling_touched n cs k touch)
      (λ live. absurd (true≢false live)) tt (committed_back m part c t x cs is i.committed)
