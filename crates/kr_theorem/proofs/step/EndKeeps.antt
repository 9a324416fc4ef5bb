-- A commit, an abort and a change undone keep the invariant; at a commit the program has its answers on the committed map.
use Rattle.std.proofs.Common.{ℕ, ◌∷◌, Option, false, ◌≤◌, ◌≡◌, ◌≢◌, ◌⊎◌, inl, inr, ⊎_elim, refl, sym, ap, ◌∙◌, subst, true≢false}
use Rattle.kr_model.specs.declared.Name.{Name}
use Rattle.kr_model.specs.Protocol.{Protocol}
use Rattle.kr_model.specs.Serial.{AreAnswered, map_left}
use Rattle.kr_model.specs.Map.{Map, Changes, get, restore, restore_all}
use Rattle.kr_model.proofs.UndoLaws.{IsMap-restore, IsMap-restore_all}
use Rattle.kr_theorem.proofs.gaps.Undo.{ChangedIn, restore_apart, restore_all_apart}
use Rattle.kr_theorem.proofs.step.Parts.{Part, Parts, blank, blank_untouched, changed_touched, moved_or_not, rolling_with, rolling_touched, Touched, Changed, Moved, with_part, with_same}
use Rattle.kr_theorem.proofs.step.Covers.{Modes, Holds}
use Rattle.kr_theorem.proofs.gaps.Gaps.{has, at-unique, reach-refl}
use Rattle.kr_theorem.proofs.gaps.Moves.{MovedIn, moved_by, moved_changed, moved_more, unmoved_back}
use Rattle.kr_theorem.proofs.step.Guarded.{Guarded, stepped}
use Rattle.kr_theorem.proofs.step.Guards.{Guard, Level, level_read, level_change, Stack, stack_top, guard_changed, guard_closed}
use Rattle.kr_theorem.proofs.step.Undoable.{undoable_end, undoable_back}
use Rattle.kr_theorem.proofs.step.Steps.{end_step}
use Rattle.kr_theorem.proofs.step.Replay.{Replays, commit_serial, IsMap-map_left}
use Rattle.kr_theorem.proofs.step.Invariant.{Owned, owned_stepped, kept, Invariant, invariant_stepped, moved_touched, committed_undo, committed_back}

-- Nothing has to be replayed of a transaction that is over.
blank_replays : (m : Map) → Replays m blank
blank_replays m d hd agree = (tt, (λ k h. absurd h), (λ k h. refl))

module _ (p : Protocol) (m : Map) (own : Modes) (part : Parts) (c : Map) (i : Invariant p m own part c) (t : ℕ) (own' : Modes)
    (range : (u : ℕ) (name : Name) → own' u name ≤ p.count) (others : (u : ℕ) → u ≢ t → (name : Name) → own' u name ≡ own u name) where
  -- It owns nothing.
  end_owned : (n : Map) → ((u k : ℕ) → u ≢ t → Touched (part u) k → get n k ≡ get m k) → Owned p n own' (with_part part t blank)
  end_owned n values =
      owned_stepped p m n own own' part t blank i.owned others values
      refl (λ k changed there. absurd changed) (λ u k ne touch changed. changed) (λ u k ne touch changed. blank_untouched k touch)

  -- A commit changes no key.
  pub commit_keeps : (part t).rolling ≡ false → AreAnswered c (part t).program × Invariant p m own' (with_part part t blank) (map_left c (part t).program)
  commit_keeps live =
      let w = i.owned in
      let s = commit_serial m c part t i.is_committed_map (i.replay t live) i.committed (changed_touched (part t)) (λ u k ne touch changed. w.alone u t k (λ e. ne (sym e)) touch changed) in (
        s.0,
        invariant_stepped p m m own own' part c (map_left c (part t).program) t blank i i.is_map (IsMap-map_left c (part t).program i.is_committed_map) (λ u k ne touch. refl)
            (end_step p m i.is_map own part i.guarded t m i.is_map own' range others (moved_touched p m own part w) (λ y. inl refl))
            (end_owned m (λ u k ne touch. refl)) (undoable_end p m i.is_map own part i.guarded i.undoable t m i.is_map own' others (λ y. inl refl)) (λ l. blank_replays m) tt s.1,
      )

  -- An abort takes the changes back: by the clause `apart` no point that another touched loses its name or its cover, so an undo takes no locks.
  pub abort_keeps : Invariant p (restore_all m (part t).changes) own' (with_part part t blank) c
  abort_keeps =
      let w = i.owned in
      let n = restore_all m (part t).changes in
      let hn = IsMap-restore_all m (part t).changes i.is_map in
      let values : (u k : ℕ) → u ≢ t → Touched (part u) k → get n k ≡ get m k = λ u k ne touch. restore_all_apart m (part t).changes k (λ changed. w.alone t u k ne touch changed) in
      let undone : (y : ℕ) → (has n y ≡ has m y) ⊎ Moved (part t) y = λ y. ⊎_elim (λ moved. inr moved) (λ out. inl (kept p m own part w t y out)) (moved_or_not (part t).moved y) in
      invariant_stepped p m n own own' part c c t blank i hn i.is_committed_map values
      (end_step p m i.is_map own part i.guarded t n hn own' range others (moved_touched p m own part w) undone)
      (end_owned n values) (undoable_end p m i.is_map own part i.guarded i.undoable t n hn own' others undone) (λ l. blank_replays n) tt (committed_undo m part c t i.committed)

-- The newest change of t is undone: no point that another touched loses its name or its cover, and what t has left is covered by the level below.
module _ (p : Protocol) (m : Map) (own : Modes) (part : Parts) (c : Map) (i : Invariant p m own part c) (t : ℕ) (x : ℕ × Option ℕ) (cs : Changes) (is : (part t).changes ≡ x ∷ cs) where
  pub back_keeps : Invariant p (restore m x.0 x.1) own (with_part part t (rolling_with (restore m x.0 x.1) cs)) c
  back_keeps =
      let w = i.owned in
      let d = i.undoable in
      let g = i.guarded in
      let n = restore m x.0 x.1 in
      let hn = IsMap-restore m x.0 x.1 i.is_map in
      let q : Part = rolling_with n cs in
      let was : (y : ℕ) → ChangedIn (x ∷ cs) y → Changed (part t) y = λ y h. subst (λ l. ChangedIn l y) (sym is) h in
      let moved_was : (y : ℕ) → MovedIn (moved_by m (x ∷ cs)) y → Moved (part t) y = λ y h. subst (λ xs. MovedIn xs y) (sym (w.counted t ∙ ap (moved_by m) is)) h in
      let values : (u k : ℕ) → u ≢ t → Touched (part u) k → get n k ≡ get m k = λ u k ne touch. restore_apart m x.0 x.1 k (λ e. w.alone t u k ne touch (was k (inl e))) in
      let undoable = undoable_back p m i.is_map own part g d t x cs is (w.counted t) in
      let level : (k : ℕ) → ChangedIn cs k → Level p (own t) n cs k = λ k h.
      stack_top p (own t) n cs k (subst (λ z. Stack p (own t) n z.changes) (with_same part t q) (undoable.levels t)) (guard_changed n cs k h) in
      let guarded : Guarded p n own (with_part part t q) = stepped p m n i.is_map hn own own part t q g g.range (λ u ne name. refl) (moved_touched p m own part w)
      (λ u k ne touch y reach. unmoved_back m x cs y (λ moved. g.apart t u k y ne touch (moved_was y moved) reach))
      (λ k touch. let h = rolling_touched n cs k touch in level_read p (own t) n cs k (level k h) h)
      (λ k moved. level_change p (own t) n cs k (level k (moved_changed n cs k moved)) moved)
      (λ u k y ne touch moved reach. g.apart t u k y ne touch (moved_was y (moved_more m x cs y moved)) reach)
      (λ u k y ne touch moved reach. d.outside t u y ne moved
      (subst (λ l. Guard m l y) (sym is) (inr (guard_closed n cs k y (guard_changed n cs k (rolling_touched n cs k touch)) reach)))) in
      let owned : Owned p n own (with_part part t q) = owned_stepped p m n own own part t q w (λ u ne name. refl) values
      refl
      (λ k h there. let z = level k h in subst (λ z. Holds p (own t z)) (at-unique n k k hn (reach-refl n k) there) (z.changed there h))
      (λ u k ne touch h. w.alone t u k ne touch (was k (inr h)))
      (λ u k ne touch h. w.alone u t k (λ e. ne (sym e)) (changed_touched (part t) k (was k (inr (rolling_touched n cs k touch)))) h) in
      invariant_stepped p m n own own part c c t q i hn i.is_committed_map values guarded owned undoable
      (λ live. absurd (true≢false live)) tt (committed_back m part c t x cs is i.committed)
