-- A fetch, an insert, a delete and an update keep what is known of the run.
use Rattle.std.specs.Prelude.{◌≡◌, ℕ, suc, Bool, true, false, ◌||◌, if◌then◌else◌, List, [], ◌∷◌, Option, Some, None, refl, is_some}
use Rattle.std.proofs.Common.{sym, ◌∙◌, ap}
use Rattle.kr_model.specs.declared.Name.{Name}
use Rattle.kr_model.specs.declared.Name.TheVariants.{Key}
use Rattle.kr_model.specs.declared.Row.TheVariants as row
use Rattle.kr_model.specs.declared.Op.TheVariants as op
use Rattle.kr_model.specs.declared.Reply.TheVariants as reply
use Rattle.kr_model.specs.Locks.{Locks, own, blockers}
use Rattle.kr_model.specs.Map.{Map, get, at}
use Rattle.kr_model.specs.State.{standing}
use Rattle.kr_model.specs.Step.{fetched, inserted, deleted, updated}
use Rattle.kr_model.specs.Run.{Entry}
use Rattle.kr_model.specs.Serial.{whole_delete, whole_update, found_or_none}
use Rattle.kr_theorem.proofs.gaps.Gaps.{has}
use Rattle.kr_theorem.proofs.gaps.Maps.{has_none, has_some}
use Rattle.kr_ghost.specs.Protocol.{GhostProtocol}
use Rattle.kr_ghost.specs.State.{GhostState, named, among, stand_by, stand, ghosts_with}
use Rattle.kr_ghost.specs.Step.{keyed_requests, insert_requests, granted_or_blocked, performed}
use Rattle.kr_ghost.specs.declared.cases.Cover.TheVariants.{ReadKey}
use Rattle.kr_ghost.specs.Safe.{KeyUse, Updated, Deleted, Hold, is_read, is_changed, FetchHit, FetchMiss, Delete, Update, Revive, DeleteMiss, UpdateMiss, keeps_out, and_read, and_changed}
use Rattle.kr_ghost.proofs.Names.{has-named, present_named, ghost_named, written_names, updated_names, or_first}
use Rattle.kr_ghost.proofs.Holding.{Protects}
use Rattle.kr_ghost.proofs.Sim.{Sim}
use Rattle.kr_ghost.proofs.Known.{Known, KnownAfter, stays, not_rolling}
use Rattle.kr_ghost.proofs.Turn.{Turn}
use Rattle.kr_ghost.proofs.Reading.{hit, miss}
use Rattle.kr_ghost.proofs.Writing.{change, new_key}
use Rattle.kr_ghost.proofs.Inserted.{found_key, revive}

module _ (p : GhostProtocol) (opening : Map) (h : List Entry) (s : GhostState) (g : Known p opening h s) (t : ℕ) (turn : Turn p opening h s g t) where
  abbrev m : Map
  m = s.state.map

  abbrev e : Map
  e = named s.state.map s.ghosts

  abbrev l : Locks
  l = s.state.locks

  abbrev z : Sim p m e l g.part g.hold
  z = g.sim

  unrolled : (n : Name) → (g.hold t n).rolling ≡ false
  unrolled n = not_rolling p opening h s g t turn.unrolled n

  present : (k w : ℕ) → get m k ≡ Some w → has e k ≡ true
  present k w there = present_named m s.ghosts k (has_some m k w there)

  is_ghost_name : (k : ℕ) → among s.ghosts k ≡ true → has e k ≡ true
  is_ghost_name k is = ghost_named m s.ghosts k is

  no_name : (k : ℕ) → get m k ≡ None → among s.ghosts k ≡ false → has e k ≡ false
  no_name k none out = has-named m s.ghosts k ∙ ap (λ b. b || has m k) out ∙ has_none m k none

  -- A present key that is changed, and a ghost that is only read.
  present_key : (by : KeyUse) (b : Bool) → b ≡ true → (k : KeyUse) → (if b then and_changed by k else and_read k) ≡ and_changed by k
  present_key by b is k = ap (λ c. if c then and_changed by k else and_read k) is

  ghost_key : (by : KeyUse) (b : Bool) → b ≡ false → (k : KeyUse) → (if b then and_changed by k else and_read k) ≡ and_read k
  ghost_key by b is k = ap (λ c. if c then and_changed by k else and_read k) is

  -- Who has read a key keeps out who would change it.
  delete_keeps : (b : Bool) → b ≡ true → (x : Hold) → Protects ReadKey x → keeps_out b x Delete ≡ true
  delete_keeps b is x reads = or_first (if b then is_read x.key else is_changed x.key) false (ap (λ c. if c then is_read x.key else is_changed x.key) is ∙ reads)

  update_keeps : (b : Bool) → b ≡ true → (x : Hold) → Protects ReadKey x → keeps_out b x Update ≡ true
  update_keeps b is x reads = or_first (if b then is_read x.key else is_changed x.key) false (ap (λ c. if c then is_read x.key else is_changed x.key) is ∙ reads)

  revive_keeps : (b : Bool) → b ≡ false → (x : Hold) → Protects ReadKey x → keeps_out b x Revive ≡ true
  revive_keeps b is x reads = or_first (if b then is_changed x.key else is_read x.key) false (ap (λ c. if c then is_changed x.key else is_read x.key) is ∙ reads)

  fetch_decided : (k : ℕ) (v : Option ℕ) (ghost : Bool) (bs : List ℕ) → get m k ≡ v → among s.ghosts k ≡ ghost
      → blockers p.table l t (keyed_requests p row.FetchHit k (at e k) (stand_by v ghost)) ≡ bs
      → KnownAfter p opening h t (op.Fetch k) (granted_or_blocked p s t (keyed_requests p row.FetchHit k (at e k) (stand_by v ghost)) (fetched m (standing s.state t) v) s.ghosts bs)
  fetch_decided k v ghost (u ∷ us) is out b = stays p opening h s g t (op.Fetch k) (reply.Blocked (u ∷ us)) refl refl
  fetch_decided k (Some w) ghost [] is out b =
      hit p opening h s g t turn (op.Fetch k) (reply.Found w) k FetchHit (present k w is) (unrolled (Key k)) refl refl refl refl
      (sym (ap found_or_none is)) (λ y z. z) refl (λ f. refl) refl b
  fetch_decided k None true [] is out b =
      hit p opening h s g t turn (op.Fetch k) reply.None k FetchHit (is_ghost_name k out) (unrolled (Key k)) refl refl refl refl
      (sym (ap found_or_none is)) (λ y z. z) refl (λ f. refl) refl b
  fetch_decided k None false [] is out b =
      miss p opening h s g t turn (op.Fetch k) reply.None k FetchMiss (no_name k is out) (λ b x unrolled. unrolled) (λ b. refl) (λ b u. refl) (λ b. refl) refl (sym (ap found_or_none is)) (λ y z. z) refl (λ f. refl) refl b

  insert_decided : (k v : ℕ) (w : Option ℕ) (ghost : Bool) (bs : List ℕ) → get m k ≡ w → among s.ghosts k ≡ ghost
      → blockers p.table l t (insert_requests p k (at e k) (own l t (at e k)) (at e (suc k)) (stand_by w ghost)) ≡ bs
      → KnownAfter p opening h t (op.Insert k v)
      (granted_or_blocked p s t (insert_requests p k (at e k) (own l t (at e k)) (at e (suc k)) (stand_by w ghost))
      (inserted m (standing s.state t) k v w) (if is_some w then s.ghosts else ghosts_with s.ghosts k (Some v)) bs)
  insert_decided k v w ghost (u ∷ us) is out b = stays p opening h s g t (op.Insert k v) (reply.Blocked (u ∷ us)) refl refl
  insert_decided k v (Some w) ghost [] is out b = found_key p opening h s g t turn k v w is (present k w is) b
  insert_decided k v None true [] is out b =
      revive p opening h s g t turn k v is (is_ghost_name k out) (written_names m s.ghosts k (Some v) (is_ghost_name k out)) (λ x reads. revive_keeps (has m k) (has_none m k is) x reads) b
  insert_decided k v None false [] is out b = new_key p opening h s g t turn k v is (no_name k is out) b

  delete_decided : (k : ℕ) (w : Option ℕ) (ghost : Bool) (bs : List ℕ) → get m k ≡ w → among s.ghosts k ≡ ghost
      → blockers p.table l t (keyed_requests p row.Delete k (at e k) (stand_by w ghost)) ≡ bs
      → KnownAfter p opening h t (op.Delete k)
      (granted_or_blocked p s t (keyed_requests p row.Delete k (at e k) (stand_by w ghost))
      (deleted m (standing s.state t) k w) (if is_some w then ghosts_with s.ghosts k None else s.ghosts) bs)
  delete_decided k w ghost (u ∷ us) is out b = stays p opening h s g t (op.Delete k) (reply.Blocked (u ∷ us)) refl refl
  delete_decided k (Some w) ghost [] is out b =
      change p opening h s g t turn (op.Delete k) (reply.Deleted w) k (Some w) None (ghosts_with s.ghosts k None) Delete Deleted (present k w is) (unrolled (Key k)) refl
      (present_key Deleted (has m k) (has_some m k w is) (g.hold t (Key k)).key) refl tt (λ x reads. delete_keeps (has m k) (has_some m k w is) x reads) is
      (ap (λ o. (whole_delete m k o).1) is) (sym (ap (λ o. (whole_delete m k o).0) is)) (λ y z. z) (λ y z. z) (written_names m s.ghosts k None (present k w is)) refl (λ f. refl) refl b
  delete_decided k None true [] is out b =
      hit p opening h s g t turn (op.Delete k) reply.Absent k Delete (is_ghost_name k out) (unrolled (Key k)) (sym (has_none m k is))
      (ghost_key Deleted (has m k) (has_none m k is) (g.hold t (Key k)).key) refl
      (ap (λ o. (whole_delete m k o).1) is) (sym (ap (λ o. (whole_delete m k o).0) is)) (λ y z. z) refl (λ f. refl) refl b
  delete_decided k None false [] is out b =
      miss p opening h s g t turn (op.Delete k) reply.Absent k DeleteMiss (no_name k is out) (λ b x unrolled. unrolled) (λ b. refl) (λ b u. refl) (λ b. refl)
      (ap (λ o. (whole_delete m k o).1) is) (sym (ap (λ o. (whole_delete m k o).0) is)) (λ y z. z) refl (λ f. refl) refl b

  update_decided : (k v : ℕ) (w : Option ℕ) (ghost : Bool) (bs : List ℕ) → p.table.updates ≡ true → get m k ≡ w → among s.ghosts k ≡ ghost
      → blockers p.table l t (keyed_requests p row.Update k (at e k) (stand_by w ghost)) ≡ bs
      → KnownAfter p opening h t (op.Update k v) (granted_or_blocked p s t (keyed_requests p row.Update k (at e k) (stand_by w ghost)) (updated m (standing s.state t) k v w) s.ghosts bs)
  update_decided k v w ghost (u ∷ us) up is out b = stays p opening h s g t (op.Update k v) (reply.Blocked (u ∷ us)) refl refl
  update_decided k v (Some w) ghost [] up is out b =
      change p opening h s g t turn (op.Update k v) (reply.Updated w) k (Some w) (Some v) s.ghosts Update Updated (present k w is) (unrolled (Key k), up)
      (sym (has_some m k w is)) (present_key Updated (has m k) (has_some m k w is) (g.hold t (Key k)).key) refl tt (λ x reads. update_keeps (has m k) (has_some m k w is) x reads) is
      (ap (λ o. (whole_update m k v o).1) is) (sym (ap (λ o. (whole_update m k v o).0) is)) (λ y z. z) (λ y z. z) (updated_names m s.ghosts k v (has_some m k w is)) refl (λ f. refl) refl b
  update_decided k v None true [] up is out b =
      hit p opening h s g t turn (op.Update k v) reply.Absent k Update (is_ghost_name k out) (unrolled (Key k), up) refl
      (ghost_key Updated (has m k) (has_none m k is) (g.hold t (Key k)).key) refl
      (ap (λ o. (whole_update m k v o).1) is) (sym (ap (λ o. (whole_update m k v o).0) is)) (λ y z. z) refl (λ f. refl) refl b
  update_decided k v None false [] up is out b =
      miss p opening h s g t turn (op.Update k v) reply.Absent k UpdateMiss (no_name k is out) (λ b x unrolled. (unrolled, up)) (λ b. refl) (λ b u. refl) (λ b. refl)
      (ap (λ o. (whole_update m k v o).1) is) (sym (ap (λ o. (whole_update m k v o).0) is))
      (λ y z. z) refl (λ f. refl) refl b

  -- A fetch, an insert, a delete and an update, granted or blocked.
  pub fetches : (k : ℕ) → KnownAfter p opening h t (op.Fetch k) (performed p s t (op.Fetch k))
  fetches k = fetch_decided k (get m k) (among s.ghosts k) (blockers p.table l t (keyed_requests p row.FetchHit k (at e k) (stand s k))) refl refl refl

  pub inserts : (k v : ℕ) → KnownAfter p opening h t (op.Insert k v) (performed p s t (op.Insert k v))
  inserts k v = insert_decided k v (get m k) (among s.ghosts k) (blockers p.table l t (insert_requests p k (at e k) (own l t (at e k)) (at e (suc k)) (stand s k))) refl refl refl

  pub deletes : (k : ℕ) → KnownAfter p opening h t (op.Delete k) (performed p s t (op.Delete k))
  deletes k = delete_decided k (get m k) (among s.ghosts k) (blockers p.table l t (keyed_requests p row.Delete k (at e k) (stand s k))) refl refl refl

  pub updates : p.table.updates ≡ true → (k v : ℕ) → KnownAfter p opening h t (op.Update k v) (performed p s t (op.Update k v))
  updates up k v = update_decided k v (get m k) (among s.ghosts k) (blockers p.table l t (keyed_requests p row.Update k (at e k) (stand s k))) up refl refl refl
