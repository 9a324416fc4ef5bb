-- What one attempt of a transaction does: its reply, and the state after it.
use Rattle.std.specs.Prelude.{◌≡◌, ℕ, Bool, true, false, not, ◌&&◌, ◌||◌, ◌==◌, nat_le, nat_lt, IsTrue, List, [], ◌∷◌, ◌++◌, Option, Some, None, filter, length, if◌then◌else◌, is_some, unwrap_or, ◌⊎◌, Contains}
use Rattle.std.specs.Ordering.{nat_cmp}
use Rattle.std.specs.FinMap.{put}
use Rattle.kr_model.specs.declared.Name.{Name}
use Rattle.kr_model.specs.declared.Name.TheVariants.{Key, End}
use Rattle.kr_model.specs.declared.Step.{Step}
use Rattle.kr_model.specs.declared.Step.TheVariants as attempt
use Rattle.kr_model.specs.declared.Op.{Op}
use Rattle.kr_model.specs.declared.Op.TheVariants as op
use Rattle.kr_model.specs.declared.Reply.{Reply}
use Rattle.kr_model.specs.declared.Reply.TheVariants as reply
use Rattle.kr_model.specs.declared.Refusal.{Refusal}
use Rattle.kr_model.specs.declared.Refusal.TheVariants as refusal
use Rattle.kr_model.specs.Protocol.{Protocol}
use Rattle.kr_model.specs.Map.{Map, Changes, get, set, without, at, after, restore, restore_all}
use Rattle.kr_model.specs.Locks.{Request, blockers, kept, release, add_once}
use Rattle.kr_model.specs.Plan.{plan_of, requests}
use Rattle.kr_model.specs.State.{Scan, Active, State, active_of, standing, has_ended, is_scanning, is_rolling, has_nothing_left}

-- Refusals --

-- Whether 64 transactions are active and t isn't one of them.
abbrev pub is_full : State → ℕ → Bool
is_full s t = not (is_some (active_of s t)) && nat_le 64 (length s.active)

-- The operations that undo changes: one change, and all that are left. No other is allowed once one was undone.
abbrev pub takes_back : Op → Bool
takes_back op.Back = true
takes_back op.Abort = true
takes_back _ = false

-- The operations that a scan in progress allows: to go on with it, and to undo changes.
abbrev pub goes_on : Op → Bool
goes_on op.Go = true
goes_on o = takes_back o

-- Whether the operation goes on with a scan.
abbrev pub is_go : Op → Bool
is_go op.Go = true
is_go _ = false

-- Whether the operation is a scan whose lower end is above its upper end.
abbrev pub is_bad_range : Op → Bool
is_bad_range (op.Scan lo hi) = nat_lt hi lo
is_bad_range _ = false

-- Whether the operation is an update.
abbrev pub is_update : Op → Bool
is_update (op.Update k v) = true
is_update _ = false

-- Whether the operation undoes one change.
abbrev pub is_back : Op → Bool
is_back op.Back = true
is_back _ = false

-- The first refusal that applies, in this order, or nothing.
abbrev pub refusal_of : Protocol → State → ℕ → Op → Option Refusal
refusal_of p s t o =
    if has_ended s t then Some refusal.Ended
    else if is_full s t then Some refusal.Full
    else if is_rolling s t && not (takes_back o) then Some refusal.RollingBack
    else if is_scanning s t && not (goes_on o) then Some refusal.Busy
    else if not (is_scanning s t) && is_go o then Some refusal.NoScan
    else if is_bad_range o then Some refusal.BadRange
    else if is_update o && not p.updates then Some refusal.NoUpdate
    else if has_nothing_left s t && is_back o then Some refusal.NothingLeft
    else None

-- What a granted attempt does --

-- The answer of a granted attempt, with the index and the transaction after it.
pub record Effect : Type 0 where
  pub reply : Reply
  pub map : Map
  pub standing : Active

-- The effect with these parts.
abbrev pub effect : Reply → Map → Active → Effect
effect r m a = record { reply = r; map = m; standing = a }

-- The transaction with one more change: of k, where `old` stood.
abbrev pub changed : Active → ℕ → Option ℕ → Active
changed a k old = record a { changes = (k, old) ∷ a.changes }

-- A fetch answers the value that stands at the key, or none.
abbrev pub fetched : Map → Active → Option ℕ → Effect
fetched m a (Some v) = effect (reply.Found v) m a
fetched m a None = effect reply.None m a

-- An insert of k with v changes an absent key alone; the last argument is what stands there.
abbrev pub inserted : Map → Active → ℕ → ℕ → Option ℕ → Effect
inserted m a k v (Some w) = effect reply.Duplicate m a
inserted m a k v None = effect reply.Done (set m k v) (changed a k None)

-- A delete of k changes a present key alone; the last argument is what stands there.
abbrev pub deleted : Map → Active → ℕ → Option ℕ → Effect
deleted m a k (Some w) = effect (reply.Deleted w) (without m k) (changed a k (Some w))
deleted m a k None = effect reply.Absent m a

-- An update of k to v changes a present key alone, also where v is what stood there; the last argument is what stands there.
abbrev pub updated : Map → Active → ℕ → ℕ → Option ℕ → Effect
updated m a k v (Some w) = effect (reply.Updated w) (set m k v) (changed a k (Some w))
updated m a k v None = effect reply.Absent m a

-- A scan ends with these rows.
abbrev pub scan_ended : Map → Active → List (ℕ × ℕ) → Effect
scan_ended m a rows = effect (reply.Rows rows) m (record a { scan = None })

-- A scan reads one more row: it ends on its upper key, and else goes on.
abbrev pub row_read : Map → Active → Scan → ℕ → ℕ → Effect
row_read m a c k v =
    let rows = c.rows ++ (k, v) ∷ [] in
    if k == c.hi then scan_ended m a rows
    else effect (reply.Going k) m (record a { scan = Some (record { lo = c.lo; hi = c.hi; rows = rows }) })

-- A scan's step on a name: a key within its range is read, and any other name ends it.
abbrev pub looked : Map → Active → Scan → Name → Effect
looked m a c End = scan_ended m a c.rows
looked m a c (Key k) = if nat_le k c.hi then row_read m a c k (unwrap_or (get m k) 0) else scan_ended m a c.rows

-- The name after the last of the rows; before the first row that is the first name from lo.
abbrev pub name_after : Map → ℕ → List (ℕ × ℕ) → Name
name_after m lo [] = at m lo
name_after m lo (e ∷ []) = after m e.0
name_after m lo (e ∷ f ∷ es) = name_after m lo (f ∷ es)

-- The name that a scan in progress looks at next.
abbrev pub name_to_look : Map → Scan → Name
name_to_look m c = name_after m c.lo c.rows

-- One step --

-- A reply, and the state after it.
abbrev pub Outcome : Type 0
Outcome = Reply × State

-- A granted attempt of t: its effect, with the locks requested by commit requests, and t is active.
abbrev pub after_effect : Protocol → State → ℕ → List Request → Effect → Outcome
after_effect p s t rs e =
    (e.reply, record { map = e.map; locks = kept p s.locks t rs; ended = s.ended; active = put nat_cmp t e.standing s.active })

-- An attempt is granted where nobody blocks it; else the reply names the blockers and the state stays.
abbrev pub granted_or_blocked : Protocol → State → ℕ → List Request → Effect → List ℕ → Outcome
granted_or_blocked p s t rs e [] = after_effect p s t rs e
granted_or_blocked p s t rs e (u ∷ us) = (reply.Blocked (u ∷ us), s)

-- An attempt of t, with the effect that it has where it is granted.
abbrev pub attempted : Protocol → State → ℕ → Step → Effect → Outcome
attempted p s t a e =
    let rs = requests (plan_of p s.map s.locks t a) in
    granted_or_blocked p s t rs e (blockers p s.locks t rs)

-- A step of the scan of t.
abbrev pub attempted_scan : Protocol → State → ℕ → Option Scan → Outcome
attempted_scan p s t None = (reply.Refused refusal.NoScan, s)
attempted_scan p s t (Some c) =
    let n = name_to_look s.map c in attempted p s t (attempt.Look n c.hi) (looked s.map (standing s t) c n)

-- The transaction t ends: it isn't active, its locks are gone, and the index is m.
abbrev pub ended_with : State → ℕ → Map → State
ended_with s t m =
    record { map = m; locks = release s.locks t; ended = add_once t s.ended; active = filter (λ e. not (e.0 == t)) s.active }

-- The newest change of t is undone, and these are left: t rolls back from now on, keeps its locks, and has no scan in progress.
abbrev pub one_taken_back : State → ℕ → Changes → Outcome
one_taken_back s t [] = (reply.Refused refusal.NothingLeft, s)
one_taken_back s t (c ∷ cs) =
    (reply.Undone (length cs), record { map = restore s.map c.0 c.1; locks = s.locks; ended = s.ended; active = put nat_cmp t (record { scan = None; changes = cs; rolling = true }) s.active })

-- What an operation of t does that isn't refused: commit, abort and back take no lock.
abbrev pub performed : Protocol → State → ℕ → Op → Outcome
performed p s t (op.Fetch k) = attempted p s t (attempt.Fetch k) (fetched s.map (standing s t) (get s.map k))
performed p s t (op.Scan lo hi) = attempted_scan p s t (Some (record { lo = lo; hi = hi; rows = [] }))
performed p s t op.Go = attempted_scan p s t (standing s t).scan
performed p s t (op.Insert k v) = attempted p s t (attempt.Insert k) (inserted s.map (standing s t) k v (get s.map k))
performed p s t (op.Delete k) = attempted p s t (attempt.Delete k) (deleted s.map (standing s t) k (get s.map k))
performed p s t (op.Update k v) = attempted p s t (attempt.Update k) (updated s.map (standing s t) k v (get s.map k))
performed p s t op.Commit = (reply.Committed, ended_with s t s.map)
performed p s t op.Abort = (reply.Aborted, ended_with s t (restore_all s.map (standing s t).changes))
performed p s t op.Back = one_taken_back s t (standing s t).changes

-- A refusal leaves the state as it was.
abbrev pub unless_refused : Protocol → State → ℕ → Op → Option Refusal → Outcome
unless_refused p s t o (Some r) = (reply.Refused r, s)
unless_refused p s t o None = performed p s t o

-- The step of t by the operation o, where memory is ample.
abbrev pub step : Protocol → State → ℕ → Op → Outcome
step p s t o = unless_refused p s t o (refusal_of p s t o)

-- Memory --

-- The operations that end a transaction.
abbrev pub is_end : Op → Bool
is_end op.Commit = true
is_end op.Abort = true
is_end _ = false

-- The operations that take no memory of an active transaction: those that end it, and to undo one change.
abbrev pub takes_no_memory : Op → Bool
takes_no_memory o = is_end o || is_back o

-- Whether `Memory` may be answered: in place of no other refusal, and not where an active transaction ends or undoes a change.
abbrev pub may_lack_memory : Protocol → State → ℕ → Op → Bool
may_lack_memory p s t o = not (is_some (refusal_of p s t o)) && not (takes_no_memory o && is_some (active_of s t))

-- The reply and the new state are those of the step, or memory was refused where that may be and the state stays.
abbrev pub IsStep : Protocol → State → ℕ → Op → Reply → State → Type 0
IsStep p s t o r new = (◌≡◌ {A = Outcome} (r, new) (step p s t o)) ⊎ ((r ≡ reply.Refused refusal.Memory) × (new ≡ s) × IsTrue (may_lack_memory p s t o))

-- Waiting --

-- The blockers that a reply names.
abbrev pub blockers_in : Reply → List ℕ
blockers_in (reply.Blocked us) = us
blockers_in _ = []

-- The operation o of t waits for u: it is blocked, and u is among the blockers.
abbrev pub WaitsFor : Protocol → State → ℕ → Op → ℕ → Type 0
WaitsFor p s t o u = Contains (blockers_in (step p s t o).0) u
