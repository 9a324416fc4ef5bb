-- Where memory is ample no step is refused it, in an index of either kind.
use Rattle.std.specs.Prelude.{◌≡◌, ℕ, suc, Bool, true, false, ◌==◌, nat_le, if◌then◌else◌, Option, Some, None, List, [], ◌∷◌, refl, is_some}
use Rattle.std.proofs.Common.{ap, ◌∙◌}
use Rattle.kr_model.specs.declared.Event.{Event}
use Rattle.kr_model.specs.declared.Op.{Op}
use Rattle.kr_model.specs.declared.Op.TheVariants as op
use Rattle.kr_model.specs.declared.Name.{Name}
use Rattle.kr_model.specs.declared.Name.TheVariants.{Key, End}
use Rattle.kr_model.specs.declared.Refusal.{Refusal}
use Rattle.kr_model.specs.declared.Refusal.TheVariants as refusal
use Rattle.kr_model.specs.declared.Reply.{Reply}
use Rattle.kr_model.specs.declared.Reply.TheVariants as reply
use Rattle.kr_model.specs.declared.Row.TheVariants as row
use Rattle.kr_model.specs.Map.{Map, Changes, get}
use Rattle.kr_model.specs.Locks.{Request, own, blockers}
use Rattle.kr_model.specs.Protocol.{Protocol}
use Rattle.kr_model.specs.State.{State, Active, Scan, standing}
use Rattle.kr_model.specs.Step as gone
use Rattle.kr_model.specs.Step.{Effect, fetched, inserted, deleted, updated, scan_ended, refusal_of}
use Rattle.kr_model.proofs.RunLaws.{memory_of_run}
use Rattle.kr_ghost.specs.Protocol.{GhostProtocol}
use Rattle.kr_ghost.specs.State.{GhostState, name_from, stand, ghosts_with}
use Rattle.kr_ghost.specs.Step.{keyed_requests, insert_requests, look_requests, granted_or_blocked, attempted, rows_with, name_read, looked, attempted_scan, one_taken_back, performed, unless_refused}
use Rattle.kr_kinds.specs.Kinds.{IndexProtocol, Gone, Leaves}
use Rattle.kr_kinds.specs.Steps.{IsNeverRefusedMemory}

-- Whether a reply is a refusal of memory.
abbrev lacks_memory : Reply → Bool
lacks_memory (reply.Refused refusal.Memory) = true
lacks_memory _ = false

fetch_has : (m : Map) (a : Active) (g : Option ℕ) → lacks_memory (fetched m a g).reply ≡ false
fetch_has m a None = refl
fetch_has m a (Some v) = refl

insert_has : (m : Map) (a : Active) (k v : ℕ) (g : Option ℕ) → lacks_memory (inserted m a k v g).reply ≡ false
insert_has m a k v None = refl
insert_has m a k v (Some w) = refl

delete_has : (m : Map) (a : Active) (k : ℕ) (g : Option ℕ) → lacks_memory (deleted m a k g).reply ≡ false
delete_has m a k None = refl
delete_has m a k (Some w) = refl

update_has : (m : Map) (a : Active) (k v : ℕ) (g : Option ℕ) → lacks_memory (updated m a k v g).reply ≡ false
update_has m a k v None = refl
update_has m a k v (Some w) = refl

look_has : (m : Map) (a : Active) (c : Scan) (n : Name) → lacks_memory (looked m a c n).reply ≡ false
look_has m a c End = refl
look_has m a c (Key k) = by (nat_le k c.hi)
  where
    ends : (rows : List (ℕ × ℕ)) (x : Bool) → lacks_memory (if x then scan_ended m a rows else gone.effect (reply.Going k) m (record a { scan = Some (record { lo = suc k; hi = c.hi; rows = rows }) })).reply ≡ false
    ends rows true = refl
    ends rows false = refl

    by : (x : Bool) → lacks_memory (if x then name_read m a c.hi k (rows_with c.rows k (get m k)) else scan_ended m a c.rows).reply ≡ false
    by true = ends (rows_with c.rows k (get m k)) (k == c.hi)
    by false = refl

not_both : (b : Bool) → b ≡ false → b ≡ true → ⊥
not_both b f t = cc

-- A step where a deleted key goes at once.
without_has : (p : Protocol) (s : State) (t : ℕ) (o : Op) → (gone.step p s t o).0 ≡ reply.Refused refusal.Memory → ⊥
without_has p s t o e = let event : Event = record { txn = t; op = o } in (memory_of_run p s (event ∷ [])).0 e

module _ (p : GhostProtocol) (s : GhostState) (t : ℕ) where
  attempt_has : (rs : List Request) (e : Effect) (ghosts : List ℕ) → lacks_memory e.reply ≡ false → (us : List ℕ) → lacks_memory (granted_or_blocked p s t rs e ghosts us).0 ≡ false
  attempt_has rs e ghosts h [] = h
  attempt_has rs e ghosts h (u ∷ us) = refl

  step_has : (rs : List Request) (e : Effect) (ghosts : List ℕ) → lacks_memory e.reply ≡ false → lacks_memory (attempted p s t rs e ghosts).0 ≡ false
  step_has rs e ghosts h = attempt_has rs e ghosts h (blockers p.table s.state.locks t rs)

  scan_has : (c : Option Scan) → lacks_memory (attempted_scan p s t c).0 ≡ false
  scan_has None = refl
  scan_has (Some c) =
      let n = name_from s c.lo in
      step_has (look_requests p n c.hi) (looked s.state.map (standing s.state t) c n) s.ghosts (look_has s.state.map (standing s.state t) c n)

  back_has : (cs : Changes) → lacks_memory (one_taken_back s t cs).0 ≡ false
  back_has [] = refl
  back_has (c ∷ cs) = refl

  performed_has : (o : Op) → lacks_memory (performed p s t o).0 ≡ false
  performed_has (op.Fetch k) =
      let a = standing s.state t in
      step_has (keyed_requests p row.FetchHit k (name_from s k) (stand s k)) (fetched s.state.map a (get s.state.map k)) s.ghosts (fetch_has s.state.map a (get s.state.map k))
  performed_has (op.Scan lo hi) = scan_has (Some (record { lo = lo; hi = hi; rows = [] }))
  performed_has op.Go = scan_has (standing s.state t).scan
  performed_has (op.Insert k v) =
      let a = standing s.state t in
      step_has (insert_requests p k (name_from s k) (own s.state.locks t (name_from s k)) (name_from s (suc k)) (stand s k)) (inserted s.state.map a k v (get s.state.map k))
      (if is_some (get s.state.map k) then s.ghosts else ghosts_with s.ghosts k (Some v)) (insert_has s.state.map a k v (get s.state.map k))
  performed_has (op.Delete k) =
      let a = standing s.state t in
      step_has (keyed_requests p row.Delete k (name_from s k) (stand s k)) (deleted s.state.map a k (get s.state.map k))
      (if is_some (get s.state.map k) then ghosts_with s.ghosts k None else s.ghosts) (delete_has s.state.map a k (get s.state.map k))
  performed_has (op.Update k v) =
      let a = standing s.state t in
      step_has (keyed_requests p row.Update k (name_from s k) (stand s k)) (updated s.state.map a k v (get s.state.map k)) s.ghosts (update_has s.state.map a k v (get s.state.map k))
  performed_has op.Commit = refl
  performed_has op.Abort = refl
  performed_has op.Back = back_has (standing s.state t).changes

  -- A refusal is one that a step without ghosts has too.
  unless_has : (o : Op) (x : Option Refusal) → refusal_of p.table s.state t o ≡ x → (unless_refused p s t o x).0 ≡ reply.Refused refusal.Memory → ⊥
  unless_has o None is e = not_both (lacks_memory (performed p s t o).0) (performed_has o) (ap lacks_memory e)
  unless_has o (Some r) is e = without_has p.table s.state t o (ap (λ x. (gone.unless_refused p.table s.state t o x).0) is ∙ e)

pub never_refused_memory : (p : IndexProtocol) → IsNeverRefusedMemory p
never_refused_memory (Gone p) s t o e = without_has p s.state t o e
never_refused_memory (Leaves p) s t o e = unless_has p s t o (refusal_of p.table s.state t o) refl e
