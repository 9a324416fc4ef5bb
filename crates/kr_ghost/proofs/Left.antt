-- A transaction that begins to roll back, undoes all that it changed, or ends keeps how the lock states fit.
use Rattle.std.specs.Prelude.{◌≡◌, ℕ, true, false, if◌then◌else◌, List, [], ◌∷◌, Option, refl}
use Rattle.std.proofs.Common.{sym, ◌∙◌, ap, subst, inl, inr, ⊎_elim, ◌≢◌}
use Rattle.std.proofs.lemmas.Bool.{cases_eq, cases_Bool}
use Rattle.kr_model.specs.declared.Name.{Name}
use Rattle.kr_model.specs.declared.Name.TheVariants.{Key, End}
use Rattle.kr_model.specs.Locks.{Locks, own}
use Rattle.kr_model.specs.Map.{Map, Changes, restore, restore_all}
use Rattle.kr_theorem.proofs.gaps.Gaps.{has}
use Rattle.kr_theorem.proofs.gaps.Undo.{ChangedIn}
use Rattle.kr_theorem.proofs.step.Parts.{Part, Parts, blank, rolling_with, with_part, with_same, with_other}
use Rattle.kr_ghost.specs.Protocol.{GhostProtocol}
use Rattle.kr_ghost.specs.State.{named, ghosts_with, ghosts_restored}
use Rattle.kr_ghost.specs.Safe.{KeyUse, Free as KeyFree, Read, Inserted, Updated, Deleted, Several, Hold, idle, free, is_changed, rolled, Quiet, commit, leave, roll}
use Rattle.kr_ghost.proofs.Names.{written_names}
use Rattle.kr_ghost.proofs.Holding.{Holds, olds_at, Fits, fits_none, none_left}
use Rattle.kr_ghost.proofs.Sim.{status, Sim, sim_by, with_all, all_apart, quiet_sim, as_was}
use Rattle.kr_ghost.proofs.Undone.{undone_holds, undone_others, undone_sim}

-- Lock states that fit, and that are as before but for t.
pub record Refit (p : GhostProtocol) (m e : Map) (l : Locks) (part : Parts) (before : Holds) (t : ℕ) : Type 0 where
  pub hold : Holds
  pub others : (u : ℕ) → u ≢ t → (n : Name) → hold u n ≡ before u n
  pub sim : Sim p m e l part hold

rolled_fits : (os : List (Option ℕ)) (k : KeyUse) → Fits os k → Fits os (if is_changed k then k else KeyFree)
rolled_fits os KeyFree f = f
rolled_fits [] Read f = tt
rolled_fits (o ∷ os) Read f = absurd f
rolled_fits os Inserted f = f
rolled_fits os Updated f = f
rolled_fits os Deleted f = f
rolled_fits os Several f = f

-- The part of one that rolls back, with these changes left.
abbrev rolling_part : Map → Changes → Part
rolling_part m cs = rolling_with m cs

module _ (p : GhostProtocol) (m e : Map) (l : Locks) (part : Parts) (hold : Holds) (z : Sim p m e l part hold) (t : ℕ) where
  -- It begins to roll back.
  pub roll_sim : (part t).rolling ≡ false → Refit p m e l (with_part part t (rolling_part m (part t).changes)) hold t
  roll_sim unrolled =
      let q = rolling_part m (part t).changes in
      let f : Name → Hold = λ n. rolled (hold t n) in
      record {
        hold = with_all hold t f;
        others = λ u ne n. all_apart hold t f u n ne;
        sim = quiet_sim p m e e l l part hold z t q f (λ n. roll (status m n) (hold t n) (z.rolls t n ∙ unrolled)) (λ y none. none) (z.mode t) (λ u ne n. refl) (λ n. refl)
            (λ k absent. ap rolled (z.none t k absent ∙ ap idle unrolled)) (λ n. rolled_fits (olds_at (part t).changes n) (hold t n).key (z.fits t n));
      }

  -- It has ended, with no locks left.
  ended : (e' : Map) (l' : Locks) → ((y : ℕ) → has e' y ≡ false → has e y ≡ false) → ((n : Name) → own l' t n ≡ 0) → ((u : ℕ) → u ≢ t → (n : Name) → own l' u n ≡ own l u n)
      → ((n : Name) → Quiet (status m n) (hold t n) (status m n) free) → Refit p m e' l' (with_part part t blank) hold t
  ended e' l' names unlocked locks silent = record {
    hold = with_all hold t (λ n. free);
    others = λ u ne n. all_apart hold t (λ n. free) u n ne;
    sim = quiet_sim p m e e' l l' part hold z t blank (λ n. free) silent names (λ n. sym (unlocked n)) locks (λ n. refl) (λ k absent. refl) (λ n. none_left n);
  }

  -- It commits, or it ends without changes left.
  pub commit_sim : (l' : Locks) → ((n : Name) → own l' t n ≡ 0) → ((u : ℕ) → u ≢ t → (n : Name) → own l' u n ≡ own l u n) → (part t).rolling ≡ false → Refit p m e l' (with_part part t blank) hold t
  commit_sim l' unlocked locks unrolled = ended e l' (λ y none. none) unlocked locks (λ n. commit (status m n) (hold t n) (z.rolls t n ∙ unrolled))

  pub leave_sim : (e' : Map) (l' : Locks) → ((y : ℕ) → has e' y ≡ false → has e y ≡ false) → ((n : Name) → own l' t n ≡ 0)
      → ((u : ℕ) → u ≢ t → (n : Name) → own l' u n ≡ own l u n) → (part t).changes ≡ [] → Refit p m e' l' (with_part part t blank) hold t
  leave_sim e' l' names unlocked locks none = ended e' l' names unlocked locks (λ n. leave (status m n) (hold t n) (fits_none (hold t n).key (no_olds n (z.fits t n))))
    where
      no_olds : (n : Name) → Fits (olds_at (part t).changes n) (hold t n).key → Fits [] (hold t n).key
      no_olds End f = f
      no_olds (Key k) f = subst (λ cs. Fits (olds_at cs (Key k)) (hold t (Key k)).key) none f

-- With t's part replaced twice the second counts.
again : (part : Parts) (t : ℕ) (q r : Part) (u : ℕ) → with_part part t r u ≡ with_part (with_part part t q) t r u
again part t q r u = ⊎_elim
    (λ is. subst (λ w. with_part part t r w ≡ with_part (with_part part t q) t r w) (sym is) (with_same part t r ∙ sym (with_same (with_part part t q) t r)))
    (λ ne. with_other part t r u ne ∙ sym (with_other (with_part part t q) t r u ne ∙ with_other part t q u ne))
    (cases_eq u t)

pub replaced : (p : GhostProtocol) (m e : Map) (l : Locks) (part : Parts) (hold : Holds) (t : ℕ) (q r : Part)
    → Sim p m e l (with_part (with_part part t q) t r) hold → Sim p m e l (with_part part t r) hold
replaced p m e l part hold t q r z =
    sim_by p m e l (with_part (with_part part t q) t r) (with_part part t r) hold (λ u. ap (λ (x : Part). x.changes) (again part t q r u)) (λ u. ap (λ (x : Part). x.rolling) (again part t q r u)) z

-- One that rolls back undoes its newest change.
module _ (p : GhostProtocol) (m : Map) (ghosts : List ℕ) (l : Locks) (part : Parts) (hold : Holds) (t : ℕ) (x : ℕ × Option ℕ) (cs : Changes) where
  undo_rolling : Sim p m (named m ghosts) l part hold → (part t).changes ≡ x ∷ cs → (part t).rolling ≡ true → has (named m ghosts) x.0 ≡ true
      → Refit p (restore m x.0 x.1) (named (restore m x.0 x.1) (ghosts_with ghosts x.0 x.1)) l (with_part part t (rolling_part (restore m x.0 x.1) cs)) hold t
  undo_rolling z is rolls named_x =
      let m' = restore m x.0 x.1 in
      let e = named m ghosts in
      let e' = named m' (ghosts_with ghosts x.0 x.1) in
      let q = rolling_part m' cs in
      let names : (y : ℕ) → has e' y ≡ false → has e y ≡ false = λ y none. sym (written_names m ghosts x.0 x.1 named_x y) ∙ none in
      record {
        hold = undone_holds p m e e' l part hold z t x cs is rolls q refl refl names named_x;
        others = undone_others p m e e' l part hold z t x cs is rolls q refl refl names named_x;
        sim = undone_sim p m e e' l part hold z t x cs is rolls q refl refl names named_x;
      }

-- Any one undoes its newest change.
pub back_sim : (p : GhostProtocol) (m : Map) (ghosts : List ℕ) (l : Locks) (part : Parts) (hold : Holds) (t : ℕ) (x : ℕ × Option ℕ) (cs : Changes)
    → Sim p m (named m ghosts) l part hold → (part t).changes ≡ x ∷ cs → has (named m ghosts) x.0 ≡ true
    → Refit p (restore m x.0 x.1) (named (restore m x.0 x.1) (ghosts_with ghosts x.0 x.1)) l (with_part part t (rolling_part (restore m x.0 x.1) cs)) hold t
back_sim p m ghosts l part hold t x cs z is named_x = ⊎_elim
    (λ rolls. undo_rolling p m ghosts l part hold t x cs z is rolls named_x)
    (λ unrolled.
    let r = roll_sim p m (named m ghosts) l part hold z t unrolled in
    let q = rolling_part m (part t).changes in
    let w = undo_rolling p m ghosts l (with_part part t q) r.hold t x cs r.sim (ap (λ (y : Part). y.changes) (with_same part t q) ∙ is) (ap (λ (y : Part). y.rolling) (with_same part t q)) named_x in
    record {
      hold = w.hold;
      others = λ u ne n. w.others u ne n ∙ r.others u ne n;
      sim = replaced p (restore m x.0 x.1) (named (restore m x.0 x.1) (ghosts_with ghosts x.0 x.1)) l part w.hold t q (rolling_part (restore m x.0 x.1) cs) w.sim;
    })
    (cases_Bool (part t).rolling)

-- It undoes all that is left.
pub undo_all : (p : GhostProtocol) (cs : Changes) (m : Map) (ghosts : List ℕ) (l : Locks) (part : Parts) (hold : Holds) (t : ℕ)
    → Sim p m (named m ghosts) l part hold → (part t).changes ≡ cs → ((k : ℕ) → ChangedIn cs k → has (named m ghosts) k ≡ true)
    → (q : Part) × (q.changes ≡ []) × Refit p (restore_all m cs) (named (restore_all m cs) (ghosts_restored ghosts cs)) l (with_part part t q) hold t
undo_all p [] m ghosts l part hold t z is there = (
  part t,
  is,
  record {
    hold = hold;
    others = λ u ne n. refl;
    sim = sim_by p m (named m ghosts) l part (with_part part t (part t)) hold (λ u. ap (λ (x : Part). x.changes) (as_was part t u)) (λ u. ap (λ (x : Part). x.rolling) (as_was part t u)) z;
  },
)
undo_all p (x ∷ cs) m ghosts l part hold t z is there =
    let m' = restore m x.0 x.1 in
    let gs = ghosts_with ghosts x.0 x.1 in
    let q = rolling_part m' cs in
    let r = back_sim p m ghosts l part hold t x cs z is (there x.0 (inl refl)) in
    let rest =
    undo_all p cs m' gs l (with_part part t q) r.hold t r.sim (ap (λ (y : Part). y.changes) (with_same part t q)) (λ k c. written_names m ghosts x.0 x.1 (there x.0 (inl refl)) k ∙ there k (inr c)) in
    let w = rest.2 in (
      rest.0,
      rest.1,
      record {
        hold = w.hold;
        others = λ u ne n. w.others u ne n ∙ r.others u ne n;
        sim = replaced p (restore_all m' cs) (named (restore_all m' cs) (ghosts_restored gs cs)) l part w.hold t q rest.0 w.sim;
      },
    )
