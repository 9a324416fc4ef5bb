-- Every step leaves a well-formed state.
use Rattle.std.specs.Prelude.{◌≡◌, ℕ, ◌≤◌, suc, Bool, true, false, not, ◌||◌, ◌==◌, nat_le, cond, if◌then◌else◌, List, [], ◌∷◌, ◌++◌, Option, Some, None, filter, refl, is_some, unwrap_or}
use Rattle.std.specs.Ordering.{nat_cmp}
use Rattle.std.specs.FinMap.{find}
use Rattle.std.specs.List.Sorted.{IsStrictlyIncreasing}
use Rattle.std.proofs.lemmas.Bool.{cases_eq}
use Rattle.std.proofs.Common.{sym, ◌∙◌, ap, subst, inl, inr, ⊎_elim, ◌≢◌, arith, true≢false}
use Rattle.kr_model.specs.declared.Name.{Name}
use Rattle.kr_model.specs.declared.Name.TheVariants.{Key, End}
use Rattle.kr_model.specs.declared.Row.TheVariants as row
use Rattle.kr_model.specs.declared.Side.TheVariants.{Current, Next}
use Rattle.kr_model.specs.declared.Op.{Op}
use Rattle.kr_model.specs.declared.Op.TheVariants as op
use Rattle.kr_model.specs.declared.Refusal.{Refusal}
use Rattle.kr_model.specs.declared.Reply.TheVariants as reply
use Rattle.kr_model.specs.declared.Row.{Row}
use Rattle.kr_model.specs.Locks.{Locks, own, blockers, kept, release}
use Rattle.kr_model.specs.Map.{Map, IsMap, Changes, get, set, restore, restore_all, at}
use Rattle.kr_model.specs.State.{Active, Scan, idle, standing}
use Rattle.kr_model.specs.Step.{Effect, fetched, inserted, deleted, updated, scan_ended, ended_with}
use Rattle.kr_model.proofs.Actives.{find_filter}
use Rattle.kr_model.proofs.LockLaws.{own-release_other}
use Rattle.kr_model.proofs.Requests.{asks_both, released_locks}
use Rattle.kr_model.proofs.UndoLaws.{IsMap-restore, IsMap-restore_all}
use Rattle.kr_theorem.proofs.gaps.Gaps.{has, at-key}
use Rattle.kr_theorem.proofs.gaps.Maps.{has_none, has_some}
use Rattle.kr_theorem.proofs.gaps.Moves.{has_apart}
use Rattle.kr_theorem.proofs.gaps.Undo.{ChangedIn}
use Rattle.kr_theorem.proofs.safe.Kept.{kept_append, elsewhere}
use Rattle.kr_ghost.specs.declared.vain.Vain.TheVariants.{InsertHit}
use Rattle.kr_ghost.specs.Protocol.{GhostProtocol, IsLawfulGhost}
use Rattle.kr_ghost.specs.State.{GhostState, named, among, stand_by, stand, ghosts_with, ghosts_restored}
use Rattle.kr_ghost.specs.Step.{on, current, next, vain, missed, keyed_requests, insert_requests, look_requests, granted_or_blocked, rows_with, name_read, looked, attempted_scan, one_taken_back, performed, unless_refused}
use Rattle.kr_ghost.proofs.Names.{key_is, IsMap-named, has-named, present_named, ghost_named, written_here, written_apart, written_names, updated_names, restored_names}
use Rattle.kr_ghost.proofs.Locking.{row_mode, vain_mode, missed_mode, asks_one, not_key, not_at}
use Rattle.kr_ghost.proofs.Ends.{own_released}
use Rattle.kr_ghost.proofs.Formed.{Formed, attempt_keeps, read_keeps, change_keeps, put_changed, rising_with, absent_with, all_rising, all_absent, names_grow}

module _ (p : GhostProtocol) (laws : IsLawfulGhost p) (s : GhostState) (f : Formed p s) (t : ℕ) where
  abbrev m : Map
  m = s.state.map

  abbrev e : Map
  e = named s.state.map s.ghosts

  abbrev l : Locks
  l = s.state.locks

  abbrev a : Active
  a = standing s.state t

  he : IsMap e
  he = IsMap-named m s.ghosts f.is_map

  within : (u : ℕ) (n : Name) → own l u n ≤ p.table.count
  within u n = let k = f.locks in k.within u n

  -- By how the key stands --

  present : (k w : ℕ) → get m k ≡ Some w → has e k ≡ true
  present k w is = present_named m s.ghosts k (has_some m k w is)

  no_name : (k : ℕ) → get m k ≡ None → among s.ghosts k ≡ false → has e k ≡ false
  no_name k none out = has-named m s.ghosts k ∙ ap (λ b. b || has m k) out ∙ has_none m k none

  keyed_keeps : (k : ℕ) (w : Option ℕ) (g : Bool) (r : Row) → get m k ≡ w → among s.ghosts k ≡ g → (x : Effect) → x.map ≡ m → x.standing.changes ≡ a.changes → (us : List ℕ) → Formed p (granted_or_blocked p s t (keyed_requests p r k (at e k) (stand_by w g)) x s.ghosts us).1
  keyed_keeps k (Some w) g r is out x same changes us = read_keeps p laws s f t (Key k) (current p r) (row_mode p laws r Current 0 (omega arith)) (λ y none. not_key e k y (present k w is) none) x same changes us
  keyed_keeps k None true r is out x same changes us = read_keeps p laws s f t (Key k) (current p r) (row_mode p laws r Current 0 (omega arith)) (λ y none. not_key e k y (ghost_named m s.ghosts k out) none) x same changes us
  keyed_keeps k None false r is out x same changes us = read_keeps p laws s f t (at e k) (missed p r) (missed_mode p laws r) (λ y none. not_at e he k y none) x same changes us

  fetch_keeps : (k : ℕ) (w : Option ℕ) → get m k ≡ w → (us : List ℕ) → Formed p (granted_or_blocked p s t (keyed_requests p row.FetchHit k (at e k) (stand_by w (among s.ghosts k))) (fetched m a w) s.ghosts us).1
  fetch_keeps k (Some v) is us = keyed_keeps k (Some v) (among s.ghosts k) row.FetchHit is refl (fetched m a (Some v)) refl refl us
  fetch_keeps k None is us = keyed_keeps k None (among s.ghosts k) row.FetchHit is refl (fetched m a None) refl refl us

  delete_keeps : (k : ℕ) (w : Option ℕ) → get m k ≡ w → (us : List ℕ)
      → Formed p (granted_or_blocked p s t (keyed_requests p row.Delete k (at e k) (stand_by w (among s.ghosts k))) (deleted m a k w) (if is_some w then ghosts_with s.ghosts k None else s.ghosts) us).1
  delete_keeps k (Some v) is us =
      change_keeps p laws s f t k (Some v) None (current p row.Delete) (row_mode p laws row.Delete Current 0 (omega arith)) (present k v is) (deleted m a k (Some v)) refl refl (ghosts_with s.ghosts k None)
      (rising_with s.ghosts k None f.rising) (absent_with m s.ghosts k None f.absent) (written_names m s.ghosts k None (present k v is)) us
  delete_keeps k None is us = keyed_keeps k None (among s.ghosts k) row.Delete is refl (deleted m a k None) refl refl us

  update_keeps : (k v : ℕ) (w : Option ℕ) → get m k ≡ w → (us : List ℕ) → Formed p (granted_or_blocked p s t (keyed_requests p row.Update k (at e k) (stand_by w (among s.ghosts k))) (updated m a k v w) s.ghosts us).1
  update_keeps k v (Some w) is us =
      change_keeps p laws s f t k (Some w) (Some v) (current p row.Update) (row_mode p laws row.Update Current 0 (omega arith)) (present k w is) (updated m a k v (Some w)) refl refl s.ghosts f.rising
      (λ y g. ⊎_elim
      (λ same. absurd (true≢false (sym (has_some m k w is) ∙ sym (ap (has m) same) ∙ f.absent y g)))
      (λ ne. has_apart m k (Some v) y ne ∙ f.absent y g)
      (cases_eq y k))
      (updated_names m s.ghosts k v (has_some m k w is)) us
  update_keeps k v None is us = keyed_keeps k None (among s.ghosts k) row.Update is refl (updated m a k v None) refl refl us

  -- A new key.
  new_keeps : (k v : ℕ) → get m k ≡ None → has e k ≡ false → (us : List ℕ)
      → Formed p (granted_or_blocked p s t (on (Key k) (p.table.ask row.Insert Current (own l t (at e k))) ++ on (at e k) (p.table.ask row.Insert Next (own l t (at e k)))) (inserted m a k v None) (ghosts_with s.ghosts k (Some v)) us).1
  new_keeps k v none gone us =
      let n = at e k in
      let o = own l t n in
      let one = p.table.ask row.Insert Current o in
      let two = p.table.ask row.Insert Next o in
      let e' = named (set m k v) (ghosts_with s.ghosts k (Some v)) in
      attempt_keeps p laws s f t (on (Key k) one ++ on n two) (inserted m a k v None) (ghosts_with s.ghosts k (Some v)) us
      (asks_both p.table (on (Key k) one) (on n two) (asks_one p laws (Key k) one (row_mode p laws row.Insert Current o (within t n))) (asks_one p laws n two (row_mode p laws row.Insert Next o (within t n))))
      (IsMap-restore m k (Some v) f.is_map) (rising_with s.ghosts k (Some v) f.rising) (absent_with m s.ghosts k (Some v) f.absent)
      (λ y there. names_grow m s.ghosts k (Some v) y there)
      (λ u y out.
      let ne : y ≢ k = λ same. true≢false (sym (written_here m s.ghosts k (Some v)) ∙ sym (ap (has e') same) ∙ out) in
      let was : has e y ≡ false = sym (written_apart m s.ghosts k (Some v) y ne) ∙ out in
      ap (λ z. own z u (Key y)) (kept_append p.table l t (on (Key k) one) (on n two))
      ∙ elsewhere p.table (kept p.table l t (on (Key k) one)) t n two u (Key y) (λ both. not_at e he k y was both.1)
      ∙ elsewhere p.table l t (Key k) one u (Key y) (λ both. ne (key_is y k both.1)) ∙ f.locked u y was)
      (λ y c. ⊎_elim
      (λ same. ap (has e') same ∙ written_here m s.ghosts k (Some v))
      (λ older. names_grow m s.ghosts k (Some v) y (f.changed t y older)) c)

  -- A ghost that is inserted.
  revive_keeps : (k v : ℕ) → get m k ≡ None → has e k ≡ true → (us : List ℕ)
      → Formed p (granted_or_blocked p s t (on (Key k) p.revive ++ on (at e (suc k)) p.revive_next) (inserted m a k v None) (ghosts_with s.ghosts k (Some v)) us).1
  revive_keeps k v none there us =
      let n = at e (suc k) in
      let e' = named (set m k v) (ghosts_with s.ghosts k (Some v)) in
      let names : (y : ℕ) → has e' y ≡ has e y = written_names m s.ghosts k (Some v) there in
      attempt_keeps p laws s f t (on (Key k) p.revive ++ on n p.revive_next) (inserted m a k v None) (ghosts_with s.ghosts k (Some v)) us
      (asks_both p.table (on (Key k) p.revive) (on n p.revive_next) (asks_one p laws (Key k) p.revive laws.revive) (asks_one p laws n p.revive_next laws.revive_next))
      (IsMap-restore m k (Some v) f.is_map) (rising_with s.ghosts k (Some v) f.rising) (absent_with m s.ghosts k (Some v) f.absent)
      (λ y was. names y ∙ was)
      (λ u y out.
      let gone : has e y ≡ false = sym (names y) ∙ out in
      ap (λ z. own z u (Key y)) (kept_append p.table l t (on (Key k) p.revive) (on n p.revive_next))
      ∙ elsewhere p.table (kept p.table l t (on (Key k) p.revive)) t n p.revive_next u (Key y) (λ both. not_at e he (suc k) y gone both.1)
      ∙ elsewhere p.table l t (Key k) p.revive u (Key y) (λ both. not_key e k y there gone both.1) ∙ f.locked u y gone)
      (λ y c. ⊎_elim
      (λ same. ap (has e') same ∙ names k ∙ there)
      (λ older. names y ∙ f.changed t y older) c)

  -- A present key that is inserted.
  found_keeps : (k v w : ℕ) → get m k ≡ Some w → (us : List ℕ)
      → Formed p (granted_or_blocked p s t (on (Key k) (vain p InsertHit) ++ on (at e (suc k)) p.insert_hit_next) (inserted m a k v (Some w)) s.ghosts us).1
  found_keeps k v w is us =
      let n = at e (suc k) in
      let one = vain p InsertHit in
      attempt_keeps p laws s f t (on (Key k) one ++ on n p.insert_hit_next) (inserted m a k v (Some w)) s.ghosts us
      (asks_both p.table (on (Key k) one) (on n p.insert_hit_next) (asks_one p laws (Key k) one (vain_mode p laws InsertHit)) (asks_one p laws n p.insert_hit_next laws.insert_hit_next))
      f.is_map f.rising f.absent (λ y there. there)
      (λ u y gone.
      ap (λ z. own z u (Key y)) (kept_append p.table l t (on (Key k) one) (on n p.insert_hit_next))
      ∙ elsewhere p.table (kept p.table l t (on (Key k) one)) t n p.insert_hit_next u (Key y) (λ both. not_at e he (suc k) y gone both.1)
      ∙ elsewhere p.table l t (Key k) one u (Key y) (λ both. not_key e k y (present k w is) gone both.1) ∙ f.locked u y gone)
      (λ y c. f.changed t y c)

  insert_keeps : (k v : ℕ) (w : Option ℕ) (g : Bool) → get m k ≡ w → among s.ghosts k ≡ g → (us : List ℕ)
      → Formed p (granted_or_blocked p s t (insert_requests p k (at e k) (own l t (at e k)) (at e (suc k)) (stand_by w g)) (inserted m a k v w) (if is_some w then s.ghosts else ghosts_with s.ghosts k (Some v)) us).1
  insert_keeps k v (Some w) g is out us = found_keeps k v w is us
  insert_keeps k v None true is out us = revive_keeps k v is (ghost_named m s.ghosts k out) us
  insert_keeps k v None false is out us = new_keeps k v is (no_name k is out) us

  -- A step of a scan.
  look_keeps : (c : Scan) (n : Name) → at e c.lo ≡ n → (us : List ℕ) → Formed p (granted_or_blocked p s t (look_requests p n c.hi) (looked m a c n) s.ghosts us).1
  look_keeps c End is us = read_keeps p laws s f t End (next p row.ScanStop) (row_mode p laws row.ScanStop Next 0 (omega arith)) (λ y none same. end_apart y same) (looked m a c End) refl refl us
    where
      end_apart : (y : ℕ) → Key y ≡ End → ⊥
      end_apart y same = cc
  look_keeps c (Key k) is us = by (nat_le k c.hi)
    where
      there : has e k ≡ true
      there = let w = at-key e c.lo k he is in w.1

      name : (y : ℕ) → has e y ≡ false → Key y ≢ Key k
      name y none = not_key e k y there none

      read : (b : Bool) → Formed p (granted_or_blocked p s t (on (Key k) (current p row.ScanKey)) (if b then scan_ended m a (rows_with c.rows k (get m k)) else record { reply = reply.Going k; map = m; standing = record a { scan = Some (record { lo = suc k; hi = c.hi; rows = rows_with c.rows k (get m k) }) } }) s.ghosts us).1
      read true = read_keeps p laws s f t (Key k) (current p row.ScanKey) (row_mode p laws row.ScanKey Current 0 (omega arith)) name (scan_ended m a (rows_with c.rows k (get m k))) refl refl us
      read false = read_keeps p laws s f t (Key k) (current p row.ScanKey) (row_mode p laws row.ScanKey Current 0 (omega arith)) name (record { reply = reply.Going k; map = m; standing = record a { scan = Some (record { lo = suc k; hi = c.hi; rows = rows_with c.rows k (get m k) }) } }) refl refl us

      by : (b : Bool) → Formed p (granted_or_blocked p s t (if b then on (Key k) (current p row.ScanKey) else on (Key k) (next p row.ScanStop)) (if b then name_read m a c.hi k (rows_with c.rows k (get m k)) else scan_ended m a c.rows) s.ghosts us).1
      by true = read (k == c.hi)
      by false = read_keeps p laws s f t (Key k) (next p row.ScanStop) (row_mode p laws row.ScanStop Next 0 (omega arith)) name (scan_ended m a c.rows) refl refl us

  scan_keeps : (c : Option Scan) → Formed p (attempted_scan p s t c).1
  scan_keeps None = f
  scan_keeps (Some c) = look_keeps c (at e c.lo) refl (blockers p.table l t (look_requests p (at e c.lo) c.hi))

  -- Ends --

  left_changed : (e' : Map) → ((k : ℕ) → has e k ≡ true → has e' k ≡ true) → (u k : ℕ) → ChangedIn (unwrap_or (find nat_cmp u (filter (λ x. not (x.0 == t)) s.state.active)) idle).changes k → has e' k ≡ true
  left_changed e' names u k c = by (u == t) (subst (λ (z : Option Active). ChangedIn (unwrap_or z idle).changes k) (find_filter s.state.active t u) c)
    where
      by : (b : Bool) → ChangedIn (unwrap_or (cond (not b) (find nat_cmp u s.state.active) None) idle).changes k → has e' k ≡ true
      by true c = absurd c
      by false c = names k (f.changed u k c)

  end_keeps : (m' : Map) (ghosts : List ℕ) → IsMap m' → IsStrictlyIncreasing ghosts → ((k : ℕ) → among ghosts k ≡ true → has m' k ≡ false) → ((k : ℕ) → has (named m' ghosts) k ≡ has e k) → Formed p (record { state = ended_with s.state t m'; ghosts = ghosts })
  end_keeps m' ghosts is_map rising absent names = record {
    is_map = is_map;
    rising = rising;
    absent = absent;
    locks = released_locks p.table l t f.locks;
    locked = λ u k none. ⊎_elim
        (λ same. ap (λ w. own (release l t) w (Key k)) same ∙ own_released l t (Key k))
        (λ ne. own-release_other l t u (Key k) ne ∙ f.locked u k (sym (names k) ∙ none))
        (cases_eq u t);
    changed = left_changed (named m' ghosts) (λ k there. names k ∙ there);
  }

  back_keeps : (cs : Changes) → a.changes ≡ cs → Formed p (one_taken_back s t cs).1
  back_keeps [] is = f
  back_keeps (c ∷ cs) is =
      let there : has e c.0 ≡ true = f.changed t c.0 (subst (λ z. ChangedIn z c.0) (sym is) (inl refl)) in
      let names = written_names m s.ghosts c.0 c.1 there in
      record {
        is_map = IsMap-restore m c.0 c.1 f.is_map;
        rising = rising_with s.ghosts c.0 c.1 f.rising;
        absent = absent_with m s.ghosts c.0 c.1 f.absent;
        locks = f.locks;
        locked = λ u k none. f.locked u k (sym (names k) ∙ none);
        changed = put_changed p laws s f t (record { scan = None; changes = cs; rolling = true }) (named (restore m c.0 c.1) (ghosts_with s.ghosts c.0 c.1))
            (λ k h. names k ∙ f.changed t k (subst (λ z. ChangedIn z k) (sym is) (inr h))) (λ k was. names k ∙ was);
      }

  performed_keeps : (o : Op) → Formed p (performed p s t o).1
  performed_keeps (op.Fetch k) = fetch_keeps k (get m k) refl (blockers p.table l t (keyed_requests p row.FetchHit k (at e k) (stand s k)))
  performed_keeps (op.Scan lo hi) = scan_keeps (Some (record { lo = lo; hi = hi; rows = [] }))
  performed_keeps op.Go = scan_keeps a.scan
  performed_keeps (op.Insert k v) = insert_keeps k v (get m k) (among s.ghosts k) refl refl (blockers p.table l t (insert_requests p k (at e k) (own l t (at e k)) (at e (suc k)) (stand s k)))
  performed_keeps (op.Delete k) = delete_keeps k (get m k) refl (blockers p.table l t (keyed_requests p row.Delete k (at e k) (stand s k)))
  performed_keeps (op.Update k v) = update_keeps k v (get m k) refl (blockers p.table l t (keyed_requests p row.Update k (at e k) (stand s k)))
  performed_keeps op.Commit = end_keeps m s.ghosts f.is_map f.rising f.absent (λ k. refl)
  performed_keeps op.Abort = end_keeps (restore_all m a.changes) (ghosts_restored s.ghosts a.changes) (IsMap-restore_all m a.changes f.is_map) (all_rising s.ghosts a.changes f.rising) (all_absent m s.ghosts a.changes f.absent) (restored_names m s.ghosts a.changes (λ k c. f.changed t k c))
  performed_keeps op.Back = back_keeps a.changes refl

  pub step_keeps : (o : Op) (r : Option Refusal) → Formed p (unless_refused p s t o r).1
  step_keeps o (Some r) = f
  step_keeps o None = performed_keeps o
