-- Reading operations, and a scan that goes on, keep the invariant.
use Rattle.std.proofs.Common.{ℕ, Some, false, ◌≡◌, ◌⊎◌, inl, inr, ⊎_elim, refl, sym, ap, ◌∙◌, subst}
use Rattle.kr_model.specs.declared.Name.TheVariants.{Key}
use Rattle.kr_model.specs.declared.Op.{Op}
use Rattle.kr_model.specs.Protocol.{Protocol}
use Rattle.kr_model.specs.Map.{Map, get, restore_all}
use Rattle.kr_theorem.proofs.gaps.Moves.{moved_by}
use Rattle.kr_theorem.proofs.step.Parts.{Progress, Part, Parts, Points, Touched, Scanned, Changed, Moved, finished, finished_touches, finished_old, with_part}
use Rattle.kr_theorem.proofs.step.Covers.{Modes, holds_keep}
use Rattle.kr_theorem.proofs.step.Guarded.{Taken}
use Rattle.kr_theorem.proofs.step.ReadRows.{MayTouch}
use Rattle.kr_theorem.proofs.step.Steps.{read_step}
use Rattle.kr_theorem.proofs.step.Undoable.{undoable_same}
use Rattle.kr_theorem.proofs.step.Replay.{answer, after_op, Replays, replays_going, replays_finished}
use Rattle.kr_theorem.proofs.step.Invariant.{Owned, owned_stepped, HasRead, Invariant, invariant_stepped, moved_touched, committed_same}

-- The part of a transaction after an operation that changes nothing.
abbrev pub reading : Map → Part → Op → Part
reading m q o = finished q o (answer m o) q.changes q.moved

-- The part of a transaction whose scan stands so.
abbrev pub scanning : Part → Progress → Part
scanning q s = record q { scan = Some s }

module _ (p : Protocol) (m : Map) (own : Modes) (part : Parts) (c : Map) (i : Invariant p m own part c) (t : ℕ) (own' : Modes) (taken : Taken p own own' t) (New : ℕ → Type 0) (may : MayTouch p m own' part t New) where
  -- New points are touched, and nothing else is new.
  more_touched : (q : Part) → q.changes ≡ (part t).changes → q.moved ≡ (part t).moved
      → ((k : ℕ) → Touched (part t) k → Touched q k)
      → ((k : ℕ) → Touched q k → (Touched (part t) k) ⊎ New k)
      → (q.rolling ≡ false → Replays m q) → HasRead m q.scan
      → Invariant p m own' (with_part part t q) c
  more_touched q same_changes same_moved old new replay scan =
      let w = i.owned in
      let changed : (k : ℕ) → Changed q k → Changed (part t) k = λ k h. subst (λ l. Changed (record q { changes = l }) k) same_changes h in
      let moved : (k : ℕ) → Moved q k → Moved (part t) k = λ k h. subst (λ l. Moved (record q { moved = l }) k) same_moved h in
      let owned : Owned p m own' (with_part part t q) = owned_stepped p m m own own' part t q w taken.others (λ u k ne touch. refl)
      (same_moved ∙ w.counted t ∙ ap (moved_by m) (sym same_changes))
      (λ k h here. holds_keep p (own t (Key k)) (own' t (Key k)) (λ cover s. taken.keeps (Key k) cover s) (w.present t k (changed k h) here))
      (λ u k ne touch h. w.alone t u k ne touch (changed k h))
      (λ u k ne touch h. ⊎_elim (λ before. w.alone u t k (λ e. ne (sym e)) before h) (λ now. may.unchanged u k ne now h) (new k touch)) in
      invariant_stepped p m m own own' part c c t q i i.is_map i.is_committed_map (λ u k ne touch. refl)
      (read_step p m i.is_map own part i.guarded t own' q taken (moved_touched p m own part w) New new moved may.covers may.apart)
      owned (undoable_same p m i.is_map own part i.guarded i.undoable t own' q taken same_changes same_moved) replay scan
      (committed_same m part c t q same_changes i.committed)

  -- An operation that changes nothing has its answer.
  pub read_keeps : (o : Op) → after_op m o ≡ m → ((k : ℕ) → Scanned (part t).scan k → Points o k) → ((k : ℕ) → Points o k → (Touched (part t) k) ⊎ New k)
      → Invariant p m own' (with_part part t (reading m (part t) o)) c
  read_keeps o still inside new =
      let before = part t in
      let old : (k : ℕ) → Touched before k → Touched (reading m before o) k = finished_old before o (answer m o) before.changes before.moved inside (λ k h. h) in
      more_touched (reading m before o) refl refl old
      (λ k h. ⊎_elim (λ a. inl a) (λ here. new k here) (finished_touches before o (answer m o) before.changes before.moved (λ y c. inl c) k h))
      (λ live. subst (λ z. Replays z (reading m before o)) still (replays_finished m before o before.changes before.moved i.is_map old
      (λ k. ap (λ z. get (restore_all z before.changes) k) still) (λ k h. h) (λ k h. inl h) (λ k out. ap (λ z. get z k) still) (i.replay t live)))
      tt

  -- A scan reads one key and goes on.
  pub going_keeps : (s : Progress) → ((k : ℕ) → Scanned (part t).scan k → Scanned (Some s) k) → ((k : ℕ) → Scanned (Some s) k → (Touched (part t) k) ⊎ New k) → HasRead m (Some s)
      → Invariant p m own' (with_part part t (scanning (part t) s)) c
  going_keeps s grows new right =
      let old : (k : ℕ) → Touched (part t) k → Touched (scanning (part t) s) k = λ k h. ⊎_elim (λ tp. inl tp) (λ rest. ⊎_elim (λ sc. inr (inl (grows k sc))) (λ c. inr (inr c)) rest) h in
      more_touched (scanning (part t) s) refl refl old (λ k h. ⊎_elim (λ tp. inl (inl tp)) (λ rest. ⊎_elim (λ sc. new k sc) (λ c. inl (inr (inr c))) rest) h)
      (λ live. replays_going m (part t) (scanning (part t) s) refl refl old (i.replay t live)) right
