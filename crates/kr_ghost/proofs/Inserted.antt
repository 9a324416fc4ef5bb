-- A granted insert of a key that is a name, with a lock on it and perhaps one on the next name, keeps what is known of the run.
use Rattle.std.specs.Prelude.{◌≡◌, ℕ, true, suc, List, [], ◌∷◌, ◌++◌, Some, None, refl}
use Rattle.std.specs.Ordering.{nat_cmp}
use Rattle.std.specs.FinMap.{put}
use Rattle.std.proofs.Common.{sym, ap}
use Rattle.kr_model.specs.declared.Name.TheVariants.{Key}
use Rattle.kr_model.specs.declared.Op.TheVariants as op
use Rattle.kr_model.specs.declared.Reply.TheVariants as reply
use Rattle.kr_model.specs.Locks.{Locks, blockers, kept}
use Rattle.kr_model.specs.Map.{Map, get, set, at}
use Rattle.kr_model.specs.State.{standing}
use Rattle.kr_model.specs.Step.{changed}
use Rattle.kr_model.specs.Run.{Entry}
use Rattle.kr_model.specs.Serial.{whole_insert}
use Rattle.kr_theorem.proofs.gaps.Gaps.{has}
use Rattle.kr_theorem.proofs.gaps.Maps.{has_none, has_some}
use Rattle.kr_theorem.proofs.run.Reading.{entry}
use Rattle.kr_theorem.proofs.run.Programs.{state_after}
use Rattle.kr_ghost.specs.declared.vain.Vain.TheVariants as vain
use Rattle.kr_ghost.specs.Protocol.{GhostProtocol}
use Rattle.kr_ghost.specs.State.{GhostState, named, ghosts_with}
use Rattle.kr_ghost.specs.Step as step
use Rattle.kr_ghost.specs.Step.{on}
use Rattle.kr_ghost.specs.declared.cases.Cover.TheVariants.{ReadKey}
use Rattle.kr_ghost.specs.Safe as safe
use Rattle.kr_ghost.specs.Safe.{Hold, Revive, InsertHit, ReviveNext, InsertHitNext, keeps_out}
use Rattle.kr_ghost.proofs.Grants.{unblocked}
use Rattle.kr_ghost.proofs.Holding.{Protects}
use Rattle.kr_ghost.proofs.Locking.{vain_mode}
use Rattle.kr_ghost.proofs.Known.{Known, KnownAfter, not_rolling}
use Rattle.kr_ghost.proofs.Turn.{Turn}
use Rattle.kr_ghost.proofs.Reading.{hit_granted}
use Rattle.kr_ghost.proofs.Writing.{change_granted}
use Rattle.kr_ghost.proofs.OnNext.{locked_next, knows_next, turn_next, free_key, knows_both}

module _ (p : GhostProtocol) (opening : Map) (h : List Entry) (s : GhostState) (g : Known p opening h s) (t : ℕ) (turn : Turn p opening h s g t) where
  abbrev m : Map
  m = s.state.map

  abbrev e : Map
  e = named s.state.map s.ghosts

  abbrev l : Locks
  l = s.state.locks

  -- A present key is found.
  pub found_key : (k v w : ℕ) → get m k ≡ Some w → has e k ≡ true → blockers p.table l t (on (Key k) (step.vain p vain.InsertHit) ++ on (at e (suc k)) p.insert_hit_next) ≡ []
      → KnownAfter p opening h t (op.Insert k v) (
        reply.Duplicate,
        record {
          state = state_after s.state m (kept p.table l t (on (Key k) (step.vain p vain.InsertHit) ++ on (at e (suc k)) p.insert_hit_next)) (put nat_cmp t (standing s.state t) s.state.active);
          ghosts = s.ghosts;
        },
      )
  found_key k v w is there unblocked =
      let one = step.vain p vain.InsertHit in
      let mode = vain_mode p turn.laws vain.InsertHit in
      let s1 = locked_next p opening h s g t turn k one mode InsertHitNext (λ b x r. r) (λ b. refl) (λ b u. refl) unblocked in
      let g1 = knows_next p opening h s g t turn k one mode InsertHitNext (λ b x r. r) (λ b. refl) (λ b u. refl) unblocked in
      let turn1 = turn_next p opening h s g t turn k one mode InsertHitNext (λ b x r. r) (λ b. refl) (λ b u. refl) unblocked in
      knows_both p opening h s g t turn k one mode InsertHitNext (λ b x r. r) (λ b. refl) (λ b u. refl) unblocked
      (h ++ entry t (op.Insert k v) reply.Duplicate ∷ []) m (put nat_cmp t (standing s.state t) s.state.active) s.ghosts
      (hit_granted p opening h s1 g1 t turn1 (op.Insert k v) reply.Duplicate k InsertHit there (not_rolling p opening h s1 g1 t turn1.unrolled (Key k), has_some m k w is) refl refl refl
      (ap (λ o. (whole_insert m k v o).1) is) (sym (ap (λ o. (whole_insert m k v o).0) is)) (λ y z. z) refl (λ f. refl) refl
      (free_key p opening h s g t turn k one mode InsertHitNext (λ b x r. r) (λ b. refl) (λ b u. refl) unblocked))

  -- A ghost is brought back.
  pub revive : (k v : ℕ) → get m k ≡ None → has e k ≡ true → ((y : ℕ) → has (named (set m k v) (ghosts_with s.ghosts k (Some v))) y ≡ has e y)
      → ((x : Hold) → Protects ReadKey x → keeps_out (has m k) x Revive ≡ true) → blockers p.table l t (on (Key k) p.revive ++ on (at e (suc k)) p.revive_next) ≡ []
      → KnownAfter p opening h t (op.Insert k v) (
        reply.Done,
        record {
          state = state_after s.state (set m k v) (kept p.table l t (on (Key k) p.revive ++ on (at e (suc k)) p.revive_next)) (put nat_cmp t (changed (standing s.state t) k None) s.state.active);
          ghosts = ghosts_with s.ghosts k (Some v);
        },
      )
  revive k v none there names keeps unblocked =
      let s1 = locked_next p opening h s g t turn k p.revive turn.laws.revive ReviveNext (λ b x r. r) (λ b. refl) (λ b u. refl) unblocked in
      let g1 = knows_next p opening h s g t turn k p.revive turn.laws.revive ReviveNext (λ b x r. r) (λ b. refl) (λ b u. refl) unblocked in
      let turn1 = turn_next p opening h s g t turn k p.revive turn.laws.revive ReviveNext (λ b x r. r) (λ b. refl) (λ b u. refl) unblocked in
      knows_both p opening h s g t turn k p.revive turn.laws.revive ReviveNext (λ b x r. r) (λ b. refl) (λ b u. refl) unblocked
      (h ++ entry t (op.Insert k v) reply.Done ∷ []) (set m k v) (put nat_cmp t (changed (standing s.state t) k None) s.state.active) (ghosts_with s.ghosts k (Some v))
      (change_granted p opening h s1 g1 t turn1 (op.Insert k v) reply.Done k None (Some v) (ghosts_with s.ghosts k (Some v)) Revive safe.Inserted there
      (not_rolling p opening h s1 g1 t turn1.unrolled (Key k), has_none m k none) refl refl refl tt keeps none
      (ap (λ o. (whole_insert m k v o).1) none) (sym (ap (λ o. (whole_insert m k v o).0) none)) (λ y z. z) (λ y z. z) names refl (λ f. refl) refl
      (free_key p opening h s g t turn k p.revive turn.laws.revive ReviveNext (λ b x r. r) (λ b. refl) (λ b u. refl) unblocked))
