-- An insert, a delete and an update keep the invariant.
use Rattle.std.proofs.Common.{ℕ, suc, List, ◌∷◌, Option, Some, None, ◌≡◌, ◌≢◌, ◌⊎◌, inl, inr, ⊎_elim, refl, sym, ap, ◌∙◌, subst, true, true≢false}
use Rattle.std.proofs.lemmas.Bool.{cases_eq}
use Rattle.kr_model.specs.declared.Name.TheVariants.{Key}
use Rattle.kr_model.specs.declared.Row.TheVariants.{Insert, Delete, Update}
use Rattle.kr_model.specs.declared.Side.TheVariants.{Current, Next}
use Rattle.kr_model.specs.declared.Cover.{Cover}
use Rattle.kr_model.specs.declared.Cover.TheVariants.{InsertedKey, UpdatedKey}
use Rattle.kr_model.specs.declared.Op.{Op}
use Rattle.kr_model.specs.declared.Op.TheVariants as op
use Rattle.kr_model.specs.Protocol.{Protocol}
use Rattle.kr_model.specs.Covers.{mode_after}
use Rattle.kr_model.specs.Map.{Map, at, get, restore, restore_all}
use Rattle.kr_model.specs.Serial.{whole_insert, whole_delete, whole_update}
use Rattle.kr_model.proofs.Guarantees.{Serves}
use Rattle.kr_theorem.proofs.gaps.Gaps.{reach-refl, Alike, has}
use Rattle.kr_theorem.proofs.gaps.Maps.{has_none, has_some, has_same}
use Rattle.kr_model.proofs.UndoLaws.{IsMap-restore}
use Rattle.kr_theorem.proofs.gaps.Undo.{restore_here, restore_apart, restore_back}
use Rattle.kr_theorem.proofs.gaps.Moves.{moved_by, moved_push}
use Rattle.kr_theorem.proofs.step.Parts.{Part, Parts, changed_touched, Points, Touched, Scanned, Changed, Moved, finished, finished_touches, finished_old, with_part}
use Rattle.kr_theorem.proofs.step.Covers.{Modes, Granted, Covered, Holds, holds_keep}
use Rattle.kr_theorem.proofs.step.Guarded.{Taken, Guarded}
use Rattle.kr_theorem.proofs.step.Steps.{insert_step, delete_step, update_step, insert_outside, delete_outside, update_outside}
use Rattle.kr_theorem.proofs.step.Undoable.{Undoable, undoable_insert, undoable_delete, undoable_update}
use Rattle.kr_theorem.proofs.step.Replay.{answer, after_op, Replays, replays_finished}
use Rattle.kr_theorem.proofs.step.Invariant.{Owned, owned_stepped, Invariant, invariant_stepped, moved_touched, committed_change}

-- The part of a transaction after an operation that changes k, where `old` stood, and after which these keys are moved.
abbrev pub changing : Map → Part → Op → ℕ → Option ℕ → List ℕ → Part
changing m q o k old moved = finished q o (answer m o) ((k, old) ∷ q.changes) moved

-- The same of one that moves k.
abbrev pub moving : Map → Part → Op → ℕ → Option ℕ → Part
moving m q o k old = changing m q o k old (k ∷ q.moved)

-- The same of an update.
abbrev pub updating : Map → Part → ℕ → ℕ → ℕ → Part
updating m q k v w = changing m q (op.Update k v) k (Some w) q.moved

module _ (p : Protocol) (m : Map) (own : Modes) (part : Parts) (c : Map) (i : Invariant p m own part c) (t : ℕ) (quiet : (scanned : ℕ) → Scanned (part t).scan scanned → ⊥) (own' : Modes) (taken : Taken p own own' t) where
  alike : (k : ℕ) (b : Option ℕ) → Alike k m (restore m k b)
  alike k b y ne = has_same m (restore m k b) y (restore_apart m k b y ne)

  -- An operation changes k, and leaves b there. No other has touched k, and where k is present then it is held.
  change_keeps : (o : Op) (k : ℕ) (old b : Option ℕ) (moved : List ℕ) → get m k ≡ old → after_op m o ≡ restore m k b
      → ((y : ℕ) → Points o y → y ≡ k) → ((y : ℕ) → y ≡ k → Points o y)
      → ((u : ℕ) → u ≢ t → Touched (part u) k → ⊥)
      → moved ≡ moved_by (restore m k b) ((k, old) ∷ (part t).changes)
      → (has (restore m k b) k ≡ true → Holds p (own' t (Key k)))
      → Guarded p (restore m k b) own' (with_part part t (changing m (part t) o k old moved))
      → Undoable p (restore m k b) own' (with_part part t (changing m (part t) o k old moved))
      → Invariant p (restore m k b) own' (with_part part t (changing m (part t) o k old moved)) c
  change_keeps o k old b moved was is_after point_is is_point untouched counted held guarded undoable =
      let w = i.owned in
      let n = restore m k b in
      let before = part t in
      let q : Part = changing m before o k old moved in
      let touched_old : (y : ℕ) → Touched before y → Touched q y = finished_old before o (answer m o) q.changes q.moved (λ y sc. absurd (quiet y sc)) (λ y c. inr c) in
      let made : (y : ℕ) → Changed q y → (Changed before y) ⊎ Points o y = λ y c. ⊎_elim (λ e. inr (is_point y e)) (λ older. inl older) c in
      let touched_in : (y : ℕ) → Touched q y → (Touched before y) ⊎ (y ≡ k) = λ y h. ⊎_elim (λ a. inl a) (λ here. inr (point_is y here)) (finished_touches before o (answer m o) q.changes q.moved made y h) in
      let fresh : (u : ℕ) → u ≢ t → Changed (part u) k → ⊥ = λ u ne d. untouched u ne (changed_touched (part u) k d) in
      let values : (u y : ℕ) → u ≢ t → Touched (part u) y → get n y ≡ get m y = λ u y ne touch. restore_apart m k b y (λ e. untouched u ne (subst (λ z. Touched (part u) z) e touch)) in
      let restored : restore_all n q.changes ≡ restore_all m before.changes = ap (λ x. restore_all (restore n k x) before.changes) (sym was) ∙ ap (λ z. restore_all z before.changes) (restore_back m k b i.is_map) in
      let owned : Owned p n own' (with_part part t q) = owned_stepped p m n own own' part t q w taken.others values
      counted
      (λ y changed there. ⊎_elim (λ e. subst (λ z. Holds p (own' t (Key z))) (sym e) (held (subst (λ z. has n z ≡ true) e there)))
      (λ ne. holds_keep p (own t (Key y)) (own' t (Key y)) (λ cover s. taken.keeps (Key y) cover s)
      (w.present t y (⊎_elim (λ e. absurd (ne e)) (λ older. older) changed) (sym (alike k b y ne) ∙ there))) (cases_eq y k))
      (λ u y ne touch changed. ⊎_elim (λ e. untouched u ne (subst (λ z. Touched (part u) z) e touch)) (λ older. w.alone t u y ne touch older) changed)
      (λ u y ne touch changed. ⊎_elim (λ older. w.alone u t y (λ e. ne (sym e)) older changed) (λ e. fresh u ne (subst (λ z. Changed (part u) z) e changed)) (touched_in y touch)) in
      invariant_stepped p m n own own' part c c t q i (IsMap-restore m k b i.is_map) i.is_committed_map values guarded owned undoable
      (λ live. subst (λ z. Replays z q) is_after (replays_finished m before o q.changes q.moved i.is_map touched_old
      (λ y. ap (λ z. get (restore_all z q.changes) y) is_after ∙ ap (λ z. get z y) restored)
      (λ y older. inr older)
      made
      (λ y out. ap (λ z. get z y) is_after ∙ restore_apart m k b y (λ e. out (inl e)))
      (i.replay t live)))
      tt
      (committed_change m part c t q k b i.is_map (ap (λ x. (k, x) ∷ before.changes) (sym was)) fresh i.committed)

  -- What a changing operation touches, and what a moving one moves.
  changing_touches : (o : Op) (k : ℕ) (old : Option ℕ) (moved : List ℕ) → ((y : ℕ) → Points o y → y ≡ k) → ((y : ℕ) → y ≡ k → Points o y) → (y : ℕ) → Touched (changing m (part t) o k old moved) y → (Touched (part t) y) ⊎ (y ≡ k)
  changing_touches o k old moved point_is is_point y h =
      let q = changing m (part t) o k old moved in
      ⊎_elim (λ a. inl a) (λ here. inr (point_is y here)) (finished_touches (part t) o (answer m o) q.changes q.moved (λ z c. ⊎_elim (λ e. inr (is_point z e)) (λ older. inl older) c) y h)

  moving_moves : (o : Op) (k : ℕ) (old : Option ℕ) (y : ℕ) → Moved (moving m (part t) o k old) y → (Moved (part t) y) ⊎ (y ≡ k)
  moving_moves o k old y h = ⊎_elim (λ e. inr e) (λ older. inl older) h

  -- An insert of an absent key.
  pub insert_keeps : Covered p → (k v : ℕ) → get m k ≡ None
      → Granted p own t Insert Next (at m k) (own t (at m k))
      → ((x : Cover) → Serves p x (mode_after p (own t (Key k)) (p.ask Insert Current (own t (at m k)))) → Serves p x (own' t (Key k)))
      → Invariant p (restore m k (Some v)) own' (with_part part t (moving m (part t) (op.Insert k v) k None)) c
  insert_keeps cov k v absent granted after =
      let g = i.guarded in
      let w = i.owned in
      let n = restore m k (Some v) in
      let none = has_none m k absent in
      let there = has_some n k v (restore_here m k (Some v)) in
      let q : Part = moving m (part t) (op.Insert k v) k None in
      change_keeps (op.Insert k v) k None (Some v) (k ∷ (part t).moved) absent (ap (λ o. (whole_insert m k v o).1) absent) (λ y e. e) (λ y e. e)
      (λ u ne touch. insert_outside p m i.is_map own part g t u k k granted none ne touch (reach-refl m k))
      (ap (λ xs. k ∷ xs) (w.counted t) ∙ sym (moved_push m k (Some v) None (part t).changes i.is_map absent))
      (λ present. inl (after InsertedKey (cov.after_new_key (own t (at m k)) (own t (Key k)) (g.range t (at m k)) (g.range t (Key k)))))
      (insert_step p m i.is_map own part g t n (IsMap-restore m k (Some v) i.is_map) own' q taken (moved_touched p m own part i.owned) cov k granted (alike k (Some v)) none there after
      (changing_touches (op.Insert k v) k None q.moved (λ y e. e) (λ y e. e)) (moving_moves (op.Insert k v) k None))
      (undoable_insert p m i.is_map own part g i.undoable t own' taken cov q k v absent refl refl granted after)

  -- A delete of a present key.
  pub delete_keeps : Covered p → (k v : ℕ) → get m k ≡ Some v
      → Granted p own t Delete Current (Key k) (own t (at m (suc k)))
      → Granted p own t Delete Next (at m (suc k)) (own t (at m (suc k)))
      → ((x : Cover) → Serves p x (mode_after p (own t (at m (suc k))) (p.ask Delete Next (own t (at m (suc k))))) → Serves p x (own' t (at m (suc k))))
      → Invariant p (restore m k None) own' (with_part part t (moving m (part t) (op.Delete k) k (Some v))) c
  delete_keeps cov k v present current next after =
      let g = i.guarded in
      let w = i.owned in
      let n = restore m k None in
      let there = has_some m k v present in
      let gone = has_none n k (restore_here m k None) in
      let q : Part = moving m (part t) (op.Delete k) k (Some v) in
      change_keeps (op.Delete k) k (Some v) None (k ∷ (part t).moved) present (ap (λ o. (whole_delete m k o).1) present) (λ y e. e) (λ y e. e)
      (λ u ne touch. delete_outside p m i.is_map own part g t u k k current there ne touch (reach-refl m k))
      (ap (λ xs. k ∷ xs) (w.counted t) ∙ sym (moved_push m k None (Some v) (part t).changes i.is_map present))
      (λ still. absurd (true≢false (sym still ∙ gone)))
      (delete_step p m i.is_map own part g t n (IsMap-restore m k None i.is_map) own' q taken (moved_touched p m own part i.owned) cov k current next (alike k None) there gone after
      (changing_touches (op.Delete k) k (Some v) q.moved (λ y e. e) (λ y e. e)) (moving_moves (op.Delete k) k (Some v)))
      (undoable_delete p m i.is_map own part g i.undoable t own' taken cov q k v present refl refl current next after)

  -- An update of a present key.
  pub update_keeps : Covered p → p.updates ≡ true → (k v w : ℕ) → get m k ≡ Some w
      → Granted p own t Update Current (Key k) 0
      → ((x : Cover) → Serves p x (mode_after p (own t (Key k)) (p.ask Update Current 0)) → Serves p x (own' t (Key k)))
      → Invariant p (restore m k (Some v)) own' (with_part part t (updating m (part t) k v w)) c
  update_keeps cov up k v w present granted after =
      let g = i.guarded in
      let owned = i.owned in
      let n = restore m k (Some v) in
      let there = has_some m k w present in
      let q : Part = updating m (part t) k v w in
      let key : Serves p UpdatedKey (own' t (Key k)) = after UpdatedKey (cov.after_updated up (own t (Key k)) (g.range t (Key k))) in
      let same : (y : ℕ) → has n y ≡ has m y = λ y. ⊎_elim (λ e. ap (has n) e ∙ has_some n k v (restore_here m k (Some v)) ∙ sym (ap (has m) e ∙ there)) (λ ne. alike k (Some v) y ne) (cases_eq y k) in
      let untouched : (u : ℕ) → u ≢ t → Touched (part u) k → ⊥ = λ u ne touch. update_outside p m i.is_map own part g t u k up granted there ne touch in
      change_keeps (op.Update k v) k (Some w) (Some v) (part t).moved present (ap (λ o. (whole_update m k v o).1) present) (λ y e. e) (λ y e. e)
      untouched
      (owned.counted t ∙ sym (moved_push m k (Some v) (Some w) (part t).changes i.is_map present))
      (λ still. inr (up, key))
      (update_step p m i.is_map own part g t n (IsMap-restore m k (Some v) i.is_map) own' q taken (moved_touched p m own part owned) k up granted same there key
      (changing_touches (op.Update k v) k (Some w) q.moved (λ y e. e) (λ y e. e)) (λ y h. h))
      (undoable_update p m i.is_map own part g i.undoable t own' taken cov q k v w up present refl refl (λ u ne moved. untouched u ne (moved_touched p m own part owned u k moved)) same key)
