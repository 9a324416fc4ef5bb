-- What one attempt of a transaction does in an index with ghosts, and what a purge does.
use Rattle.std.specs.Prelude.{ℕ, suc, Bool, true, not, ◌&&◌, ◌==◌, nat_le, List, [], ◌∷◌, ◌++◌, Option, Some, None, length, filter, if◌then◌else◌, is_some, unwrap_or}
use Rattle.std.specs.Ordering.{nat_cmp}
use Rattle.std.specs.FinMap.{find, put}
use Rattle.std.specs.List.{list_any}
use Rattle.std.specs.Option.{option_to_list}
use Rattle.kr_model.specs.declared.Name.{Name}
use Rattle.kr_model.specs.declared.Name.TheVariants.{Key, End}
use Rattle.kr_model.specs.declared.Row.{Row}
use Rattle.kr_model.specs.declared.Row.TheVariants as row
use Rattle.kr_model.specs.declared.Side.TheVariants.{Current, Next}
use Rattle.kr_model.specs.declared.Span.{Span}
use Rattle.kr_model.specs.declared.Op.{Op}
use Rattle.kr_model.specs.declared.Op.TheVariants as op
use Rattle.kr_model.specs.declared.Reply.{Reply}
use Rattle.kr_model.specs.declared.Reply.TheVariants as reply
use Rattle.kr_model.specs.declared.Refusal.{Refusal}
use Rattle.kr_model.specs.declared.Refusal.TheVariants as refusal
use Rattle.kr_model.specs.Protocol.{Protocol}
use Rattle.kr_model.specs.Map.{Map, Changes, get, at, restore, restore_all}
use Rattle.kr_model.specs.Plan.{side_request}
use Rattle.kr_model.specs.Locks.{Locks, Request, own, forget, keep_or_drop, lockers, blockers, kept}
use Rattle.kr_model.specs.State.{Scan, Active, State, standing, is_rolling}
use Rattle.kr_model.specs.Step.{Effect, effect, fetched, inserted, deleted, updated, scan_ended, ended_with, refusal_of}
use Rattle.kr_ghost.specs.declared.vain.Vain.{Vain}
use Rattle.kr_ghost.specs.declared.vain.Vain.TheVariants.{InsertHit, DeleteMiss, UpdateMiss}
use Rattle.kr_ghost.specs.Protocol.{Purges, Unlocked, Inherit, GhostProtocol}
use Rattle.kr_ghost.specs.State.{GhostState, named, is_ghost, name_from, Stand, Present, Ghost, Absent, stand, ghosts_with, ghosts_restored}

-- Requests --

-- The request on a name, where something is requested.
abbrev pub on : Name → Option (ℕ × Span) → List Request
on n asked = option_to_list (side_request (Some n) asked)

-- What a row requests on the key of the operation, whatever is held on the next name.
abbrev pub current : GhostProtocol → Row → Option (ℕ × Span)
current p r = p.table.ask r Current 0

-- And on the next name.
abbrev pub next : GhostProtocol → Row → Option (ℕ × Span)
next p r = p.table.ask r Next 0

-- What a fetch does that finds what a vain step finds.
abbrev pub as_fetch : GhostProtocol → Vain → Option (ℕ × Span)
as_fetch p InsertHit = current p row.FetchHit
as_fetch p DeleteMiss = next p row.FetchMiss
as_fetch p UpdateMiss = next p row.FetchMiss

-- What a vain step requests: what its row says, and without one what a fetch does.
abbrev pub vain : GhostProtocol → Vain → Option (ℕ × Span)
vain p v = unwrap_or (p.vain v) (as_fetch p v)

-- What a fetch, a delete or an update of a key that is no name requests on the next name.
abbrev pub missed : GhostProtocol → Row → Option (ℕ × Span)
missed p row.Delete = vain p DeleteMiss
missed p row.Update = vain p UpdateMiss
missed p _ = next p row.FetchMiss

-- A fetch, a delete or an update of k requests its row's lock on a key that is a name, present or not, and else one on the next name.
abbrev pub keyed_requests : GhostProtocol → Row → ℕ → Name → Stand → List Request
keyed_requests p r k n Present = on (Key k) (current p r)
keyed_requests p r k n Ghost = on (Key k) (current p r)
keyed_requests p r k n Absent = on n (missed p r)

-- An insert of k, where n is the least name not below k, on which its own mode is o, and above the least name above k.
abbrev pub insert_requests : GhostProtocol → ℕ → Name → ℕ → Name → Stand → List Request
insert_requests p k n o above Present = on (Key k) (vain p InsertHit) ++ on above p.insert_hit_next
insert_requests p k n o above Ghost = on (Key k) p.revive ++ on above p.revive_next
insert_requests p k n o above Absent = on (Key k) (p.table.ask row.Insert Current o) ++ on n (p.table.ask row.Insert Next o)

-- A scan's step on the name n: a name within the range is looked at, whether it is present or a ghost, and any other stops the scan.
abbrev pub look_requests : GhostProtocol → Name → ℕ → List Request
look_requests p End hi = on End (next p row.ScanStop)
look_requests p (Key k) hi = if nat_le k hi then on (Key k) (current p row.ScanKey) else on (Key k) (next p row.ScanStop)

-- One step --

-- A reply, and the state after it.
abbrev pub Outcome : Type 0
Outcome = Reply × GhostState

-- A granted attempt of t: its effect, with the locks requested by commit requests, and t is active; these are the ghosts then.
abbrev pub after_effect : GhostProtocol → GhostState → ℕ → List Request → Effect → List ℕ → Outcome
after_effect p s t rs e ghosts =
    (e.reply, record { state = record { map = e.map; locks = kept p.table s.state.locks t rs; ended = s.state.ended; active = put nat_cmp t e.standing s.state.active }; ghosts = ghosts })

-- An attempt is granted where nobody blocks it; else the reply names the blockers and the state stays.
abbrev pub granted_or_blocked : GhostProtocol → GhostState → ℕ → List Request → Effect → List ℕ → List ℕ → Outcome
granted_or_blocked p s t rs e ghosts [] = after_effect p s t rs e ghosts
granted_or_blocked p s t rs e ghosts (u ∷ us) = (reply.Blocked (u ∷ us), s)

-- An attempt of t with these requests, and the effect and the ghosts that there are where it is granted.
abbrev pub attempted : GhostProtocol → GhostState → ℕ → List Request → Effect → List ℕ → Outcome
attempted p s t rs e ghosts = granted_or_blocked p s t rs e ghosts (blockers p.table s.state.locks t rs)

-- The rows of a scan after a look at k: a ghost adds none.
abbrev pub rows_with : List (ℕ × ℕ) → ℕ → Option ℕ → List (ℕ × ℕ)
rows_with rows k (Some v) = rows ++ (k, v) ∷ []
rows_with rows k None = rows

-- A scan has looked at k, and has these rows: it ends on its upper key, and else goes on above k.
abbrev pub name_read : Map → Active → ℕ → ℕ → List (ℕ × ℕ) → Effect
name_read m a hi k rows =
    if k == hi then scan_ended m a rows
    else effect (reply.Going k) m (record a { scan = Some (record { lo = suc k; hi = hi; rows = rows }) })

-- A scan's step on a name.
abbrev pub looked : Map → Active → Scan → Name → Effect
looked m a c End = scan_ended m a c.rows
looked m a c (Key k) = if nat_le k c.hi then name_read m a c.hi k (rows_with c.rows k (get m k)) else scan_ended m a c.rows

-- A step of the scan of t.
abbrev pub attempted_scan : GhostProtocol → GhostState → ℕ → Option Scan → Outcome
attempted_scan p s t None = (reply.Refused refusal.NoScan, s)
attempted_scan p s t (Some c) =
    let n = name_from s c.lo in attempted p s t (look_requests p n c.hi) (looked s.state.map (standing s.state t) c n) s.ghosts

-- The newest change of t is undone, and these are left.
abbrev pub one_taken_back : GhostState → ℕ → Changes → Outcome
one_taken_back s t [] = (reply.Refused refusal.NothingLeft, s)
one_taken_back s t (c ∷ cs) = (
  reply.Undone (length cs),
  record {
    state = record { map = restore s.state.map c.0 c.1; locks = s.state.locks; ended = s.state.ended; active = put nat_cmp t (record { scan = None; changes = cs; rolling = true }) s.state.active };
    ghosts = ghosts_with s.ghosts c.0 c.1;
  },
)

-- What an operation of t does that isn't refused. A delete leaves a ghost, and so does an insert that is undone.
abbrev pub performed : GhostProtocol → GhostState → ℕ → Op → Outcome
performed p s t (op.Fetch k) =
    attempted p s t (keyed_requests p row.FetchHit k (name_from s k) (stand s k)) (fetched s.state.map (standing s.state t) (get s.state.map k)) s.ghosts
performed p s t (op.Scan lo hi) = attempted_scan p s t (Some (record { lo = lo; hi = hi; rows = [] }))
performed p s t op.Go = attempted_scan p s t (standing s.state t).scan
performed p s t (op.Insert k v) =
    attempted p s t (insert_requests p k (name_from s k) (own s.state.locks t (name_from s k)) (name_from s (suc k)) (stand s k))
    (inserted s.state.map (standing s.state t) k v (get s.state.map k)) (if is_some (get s.state.map k) then s.ghosts else ghosts_with s.ghosts k (Some v))
performed p s t (op.Delete k) =
    attempted p s t (keyed_requests p row.Delete k (name_from s k) (stand s k))
    (deleted s.state.map (standing s.state t) k (get s.state.map k)) (if is_some (get s.state.map k) then ghosts_with s.ghosts k None else s.ghosts)
performed p s t (op.Update k v) =
    attempted p s t (keyed_requests p row.Update k (name_from s k) (stand s k)) (updated s.state.map (standing s.state t) k v (get s.state.map k)) s.ghosts
performed p s t op.Commit = (reply.Committed, record { state = ended_with s.state t s.state.map; ghosts = s.ghosts })
performed p s t op.Abort =
    let changes = (standing s.state t).changes in
    (reply.Aborted, record { state = ended_with s.state t (restore_all s.state.map changes); ghosts = ghosts_restored s.ghosts changes })
performed p s t op.Back = one_taken_back s t (standing s.state t).changes

-- A refusal leaves the state as it was.
abbrev pub unless_refused : GhostProtocol → GhostState → ℕ → Op → Option Refusal → Outcome
unless_refused p s t o (Some r) = (reply.Refused r, s)
unless_refused p s t o None = performed p s t o

-- The step of t by the operation o; it is refused where it is in an index without ghosts.
abbrev pub step : GhostProtocol → GhostState → ℕ → Op → Outcome
step p s t o = unless_refused p s t o (refusal_of p.table s.state t o)

-- A purge --

-- Whether an active transaction has a change of k left.
abbrev pub has_change : State → ℕ → Bool
has_change s k = list_any (λ a. is_some (find nat_cmp k a.1.changes)) s.active

-- Whether a transaction holds a lock on the name.
abbrev pub is_locked : Locks → Name → Bool
is_locked h n = list_any (λ u. not (own h u n == 0)) (lockers h)

-- Whether the locks on k let it be purged.
abbrev pub lets_purge : Purges → Locks → ℕ → Bool
lets_purge Unlocked h k = not (is_locked h (Key k))
lets_purge (Inherit heir) h k = true

-- Whether k may be purged: it is a ghost, no active transaction can still undo a change of it, and the locks on it let it go.
abbrev pub may_purge : GhostProtocol → GhostState → ℕ → Bool
may_purge p s k = is_ghost (stand s k) && not (has_change s.state k) && lets_purge p.purges s.state.locks k

-- The locks after u has inherited its lock on the ghost k as one on the name n, and has none on k.
abbrev pub inherits : Protocol → (ℕ → ℕ) → State → ℕ → Name → ℕ → Locks → Locks
inherits p heir s k n u h =
    forget (if is_rolling s u then h else keep_or_drop h u n (p.convert (own h u n) (heir (own h u (Key k))))) u (Key k)

-- The locks after each of these transactions has.
abbrev pub all_inherit : Protocol → (ℕ → ℕ) → State → ℕ → Name → List ℕ → Locks
all_inherit p heir s k n [] = s.locks
all_inherit p heir s k n (u ∷ us) = inherits p heir s k n u (all_inherit p heir s k n us)

-- The locks after the purge of k, above which n is the next name.
abbrev pub locks_purged : Protocol → Purges → State → ℕ → Name → Locks
locks_purged p Unlocked s k n = s.locks
locks_purged p (Inherit heir) s k n = all_inherit p heir s k n (lockers s.locks)

-- The state without the ghost k.
abbrev pub without_ghost : GhostProtocol → GhostState → ℕ → GhostState
without_ghost p s k =
    let ghosts = filter (λ g. not (g == k)) s.ghosts in
    record {
      state = record { map = s.state.map; locks = locks_purged p.table p.purges s.state k (at (named s.state.map ghosts) k); ended = s.state.ended; active = s.state.active };
      ghosts = ghosts;
    }

-- The state after a purge of k; where k may not be purged, it stays.
abbrev pub purged : GhostProtocol → GhostState → ℕ → GhostState
purged p s k = if may_purge p s k then without_ghost p s k else s
