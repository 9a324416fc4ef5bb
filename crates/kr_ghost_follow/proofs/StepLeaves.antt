-- What a step leaves of the scans in progress, and which replies it has.
use Rattle.std.specs.Prelude.{◌≡◌, ℕ, suc, Bool, true, false, not, ◌==◌, ◌&&◌, nat_le, nat_lt, if◌then◌else◌, List, [], ◌∷◌, Option, Some, None, filter, is_some, unwrap_or, refl}
use Rattle.std.specs.Ordering.{nat_cmp}
use Rattle.std.specs.FinMap.{find, put}
use Rattle.std.proofs.Common.{ap, ◌∙◌}
use Rattle.kr_model.specs.declared.Name.{Name}
use Rattle.kr_model.specs.declared.Name.TheVariants.{Key, End}
use Rattle.kr_model.specs.declared.Op.{Op}
use Rattle.kr_model.specs.declared.Op.TheVariants as op
use Rattle.kr_model.specs.declared.Refusal.{Refusal}
use Rattle.kr_model.specs.declared.Refusal.TheVariants as refusal
use Rattle.kr_model.specs.declared.Reply.{Reply}
use Rattle.kr_model.specs.declared.Reply.TheVariants as reply
use Rattle.kr_model.specs.declared.Row.TheVariants as row
use Rattle.kr_model.specs.Map.{Changes, get}
use Rattle.kr_model.specs.Locks.{Request, own, blockers}
use Rattle.kr_model.specs.Run.{is_granted}
use Rattle.kr_model.specs.State.{Active, Scan, idle, has_ended, is_rolling, is_scanning, standing}
use Rattle.kr_model.specs.Step.{effect, fetched, inserted, deleted, updated, scan_ended, refusal_of, goes_on, is_bad_range, is_full, is_go, takes_back}
use Rattle.kr_model.proofs.Actives.{tied, find_put_same, find_filter}
use Rattle.kr_model.proofs.KindsOfSteps.{not_refused}
use Rattle.kr_ghost.specs.Protocol.{GhostProtocol}
use Rattle.kr_ghost.specs.State.{GhostState, ghosts_with, name_from, stand}
use Rattle.kr_ghost.specs.Step.{Outcome, attempted_scan, granted_or_blocked, insert_requests, keyed_requests, look_requests, looked, name_read, one_taken_back, performed, rows_with, step, unless_refused}
use Rattle.kr_trace_follow.proofs.StepReplies.{IsScanReply, a_scan, is_plain, no_scan}

-- Scans --

-- A scan upwards begins, or one that is in progress goes on.
abbrev pub IsOfScan : Option Scan → Op → Type 0
IsOfScan was (op.Scan lo hi) = nat_lt hi lo ≡ false
IsOfScan was op.Go = (c : Scan) × (was ≡ Some c)
IsOfScan was _ = ⊥

-- What is left after this reply.
abbrev pub Leaves : GhostState → ℕ → Op → Reply → GhostState → Type 0
Leaves s t o (reply.Going k) new = IsOfScan (standing s.state t).scan o × ((c : Scan) × ((standing new.state t).scan ≡ Some c))
Leaves s t o (reply.Blocked us) new = new ≡ s
Leaves s t o (reply.Refused r) new = new ≡ s
Leaves s t o _ new = (standing new.state t).scan ≡ None

abbrev pub LeavesBy : GhostState → ℕ → Op → Outcome → Type 0
LeavesBy s t o done = Leaves s t o done.0 done.1

scan_put : (es : List (ℕ × Active)) (t : ℕ) (a : Active) → (unwrap_or (find nat_cmp t (put nat_cmp t a es)) idle).scan ≡ a.scan
scan_put es t a = ap (λ x. (unwrap_or x idle).scan) (find_put_same es t a)

scan_gone : (es : List (ℕ × Active)) (t : ℕ) → (unwrap_or (find nat_cmp t (filter (λ e. not (e.0 == t)) es)) idle).scan ≡ None
scan_gone es t = ap (λ x. (unwrap_or x idle).scan) (find_filter es t t ∙ ap (λ b. if not b then find nat_cmp t es else None) (tied t))

fetch_leaves : (p : GhostProtocol) (s : GhostState) (t k : ℕ) (rs : List Request) (g : Option ℕ) (ghosts us : List ℕ) → (standing s.state t).scan ≡ None
    → LeavesBy s t (op.Fetch k) (granted_or_blocked p s t rs (fetched s.state.map (standing s.state t) g) ghosts us)
fetch_leaves p s t k rs g ghosts (u ∷ us) none = refl
fetch_leaves p s t k rs (Some v) ghosts [] none = scan_put s.state.active t (standing s.state t) ∙ none
fetch_leaves p s t k rs None ghosts [] none = scan_put s.state.active t (standing s.state t) ∙ none

insert_leaves : (p : GhostProtocol) (s : GhostState) (t k v : ℕ) (rs : List Request) (g : Option ℕ) (ghosts us : List ℕ) → (standing s.state t).scan ≡ None
    → LeavesBy s t (op.Insert k v) (granted_or_blocked p s t rs (inserted s.state.map (standing s.state t) k v g) ghosts us)
insert_leaves p s t k v rs g ghosts (u ∷ us) none = refl
insert_leaves p s t k v rs (Some w) ghosts [] none = scan_put s.state.active t (standing s.state t) ∙ none
insert_leaves p s t k v rs None ghosts [] none = scan_put s.state.active t (record (standing s.state t) { changes = (k, None) ∷ (standing s.state t).changes }) ∙ none

delete_leaves : (p : GhostProtocol) (s : GhostState) (t k : ℕ) (rs : List Request) (g : Option ℕ) (ghosts us : List ℕ) → (standing s.state t).scan ≡ None
    → LeavesBy s t (op.Delete k) (granted_or_blocked p s t rs (deleted s.state.map (standing s.state t) k g) ghosts us)
delete_leaves p s t k rs g ghosts (u ∷ us) none = refl
delete_leaves p s t k rs (Some w) ghosts [] none = scan_put s.state.active t (record (standing s.state t) { changes = (k, Some w) ∷ (standing s.state t).changes }) ∙ none
delete_leaves p s t k rs None ghosts [] none = scan_put s.state.active t (standing s.state t) ∙ none

update_leaves : (p : GhostProtocol) (s : GhostState) (t k v : ℕ) (rs : List Request) (g : Option ℕ) (ghosts us : List ℕ) → (standing s.state t).scan ≡ None
    → LeavesBy s t (op.Update k v) (granted_or_blocked p s t rs (updated s.state.map (standing s.state t) k v g) ghosts us)
update_leaves p s t k v rs g ghosts (u ∷ us) none = refl
update_leaves p s t k v rs (Some w) ghosts [] none = scan_put s.state.active t (record (standing s.state t) { changes = (k, Some w) ∷ (standing s.state t).changes }) ∙ none
update_leaves p s t k v rs None ghosts [] none = scan_put s.state.active t (standing s.state t) ∙ none

look_leaves : (p : GhostProtocol) (s : GhostState) (t : ℕ) (o : Op) (rs : List Request) (c : Scan) (n : Name) (us : List ℕ) → IsOfScan (standing s.state t).scan o
    → LeavesBy s t o (granted_or_blocked p s t rs (looked s.state.map (standing s.state t) c n) s.ghosts us)
look_leaves p s t o rs c n (u ∷ us) scans = refl
look_leaves p s t o rs c End [] scans = scan_put s.state.active t (record (standing s.state t) { scan = None })
look_leaves p s t o rs c (Key k) [] scans = by (nat_le k c.hi)
  where
    a : Active
    a = standing s.state t

    on : (rows : List (ℕ × ℕ)) (at_end : Bool)
        → LeavesBy s t o (granted_or_blocked p s t rs (if at_end then scan_ended s.state.map a rows else effect (reply.Going k) s.state.map (record a { scan = Some (record { lo = suc k; hi = c.hi; rows = rows }) })) s.ghosts [])
    on rows true = scan_put s.state.active t (record a { scan = None })
    on rows false =
        let left : Scan = record { lo = suc k; hi = c.hi; rows = rows } in
        (scans, (left, scan_put s.state.active t (record a { scan = Some left })))

    by : (within : Bool) → LeavesBy s t o (granted_or_blocked p s t rs (if within then name_read s.state.map a c.hi k (rows_with c.rows k (get s.state.map k)) else scan_ended s.state.map a c.rows) s.ghosts [])
    by true = on (rows_with c.rows k (get s.state.map k)) (k == c.hi)
    by false = scan_put s.state.active t (record a { scan = None })

go_leaves : (p : GhostProtocol) (s : GhostState) (t : ℕ) (c : Option Scan) → (standing s.state t).scan ≡ c → LeavesBy s t op.Go (attempted_scan p s t c)
go_leaves p s t None is = refl
go_leaves p s t (Some c) is =
    let n = name_from s c.lo in
    let rs = look_requests p n c.hi in
    look_leaves p s t op.Go rs c n (blockers p.table s.state.locks t rs) (c, is)

back_leaves : (s : GhostState) (t : ℕ) (cs : Changes) → LeavesBy s t op.Back (one_taken_back s t cs)
back_leaves s t [] = refl
back_leaves s t (c ∷ cs) = scan_put s.state.active t (record { scan = None; changes = cs; rolling = true })

performed_leaves : (p : GhostProtocol) (s : GhostState) (t : ℕ) (o : Op) → (goes_on o ≡ false → (standing s.state t).scan ≡ None) → is_bad_range o ≡ false → LeavesBy s t o (performed p s t o)
performed_leaves p s t (op.Fetch k) rest range =
    let rs = keyed_requests p row.FetchHit k (name_from s k) (stand s k) in
    fetch_leaves p s t k rs (get s.state.map k) s.ghosts (blockers p.table s.state.locks t rs) (rest refl)
performed_leaves p s t (op.Insert k v) rest range =
    let rs = insert_requests p k (name_from s k) (own s.state.locks t (name_from s k)) (name_from s (suc k)) (stand s k) in
    insert_leaves p s t k v rs (get s.state.map k) (if is_some (get s.state.map k) then s.ghosts else ghosts_with s.ghosts k (Some v)) (blockers p.table s.state.locks t rs) (rest refl)
performed_leaves p s t (op.Delete k) rest range =
    let rs = keyed_requests p row.Delete k (name_from s k) (stand s k) in
    delete_leaves p s t k rs (get s.state.map k) (if is_some (get s.state.map k) then ghosts_with s.ghosts k None else s.ghosts) (blockers p.table s.state.locks t rs) (rest refl)
performed_leaves p s t (op.Update k v) rest range =
    let rs = keyed_requests p row.Update k (name_from s k) (stand s k) in
    update_leaves p s t k v rs (get s.state.map k) s.ghosts (blockers p.table s.state.locks t rs) (rest refl)
performed_leaves p s t (op.Scan lo hi) rest range =
    let n = name_from s lo in
    let rs = look_requests p n hi in
    look_leaves p s t (op.Scan lo hi) rs (record { lo = lo; hi = hi; rows = [] }) n (blockers p.table s.state.locks t rs) range
performed_leaves p s t op.Go rest range = go_leaves p s t (standing s.state t).scan refl
performed_leaves p s t op.Commit rest range = scan_gone s.state.active t
performed_leaves p s t op.Abort rest range = scan_gone s.state.active t
performed_leaves p s t op.Back rest range = back_leaves s t (standing s.state t).changes

-- What holds where nothing is refused: only to go on and to undo changes are allowed in the midst of a scan, to go on there alone, and each scan is one upwards.
record Allowed (p : GhostProtocol) (s : GhostState) (t : ℕ) (o : Op) : Type 0 where
  busy : (is_scanning s.state t && not (goes_on o)) ≡ false
  scans : (not (is_scanning s.state t) && is_go o) ≡ false
  range : is_bad_range o ≡ false

allowed : (p : GhostProtocol) (s : GhostState) (t : ℕ) (o : Op) → refusal_of p.table s.state t o ≡ None → Allowed p s t o
allowed p s t o e =
    let ended = not_refused (has_ended s.state t) refusal.Ended _ e in
    let full = not_refused (is_full s.state t) refusal.Full _ ended.1 in
    let rolls = not_refused (is_rolling s.state t && not (takes_back o)) refusal.RollingBack _ full.1 in
    let busy = not_refused (is_scanning s.state t && not (goes_on o)) refusal.Busy _ rolls.1 in
    let scans = not_refused (not (is_scanning s.state t) && is_go o) refusal.NoScan _ busy.1 in
    let range = not_refused (is_bad_range o) refusal.BadRange _ scans.1 in
    record { busy = busy.0; scans = scans.0; range = range.0 }

unless_leaves : (p : GhostProtocol) (s : GhostState) (t : ℕ) (o : Op) (r : Option Refusal) → refusal_of p.table s.state t o ≡ r → LeavesBy s t o (unless_refused p s t o r)
unless_leaves p s t o (Some r) e = refl
unless_leaves p s t o None e = let a = allowed p s t o e in performed_leaves p s t o (no_scan (standing s.state t).scan (goes_on o) a.busy) a.range

pub step_leaves : (p : GhostProtocol) (s : GhostState) (t : ℕ) (o : Op) → LeavesBy s t o (step p s t o)
step_leaves p s t o = unless_leaves p s t o (refusal_of p.table s.state t o) refl

-- What isn't refused --

granted_allowed : (p : GhostProtocol) (s : GhostState) (t : ℕ) (o : Op) (r : Option Refusal) → is_granted (unless_refused p s t o r).0 ≡ true → r ≡ None
granted_allowed p s t o (Some r) h = absurd (cc)
granted_allowed p s t o None h = refl

-- A step that is granted, and doesn't go on with a scan or undo changes, is of a transaction without a scan in progress.
pub rests : (p : GhostProtocol) (s : GhostState) (t : ℕ) (o : Op) → is_granted (step p s t o).0 ≡ true → goes_on o ≡ false → (standing s.state t).scan ≡ None
rests p s t o g e = let a = allowed p s t o (granted_allowed p s t o (refusal_of p.table s.state t o) g) in no_scan (standing s.state t).scan (goes_on o) a.busy e

-- One that goes on with a scan is of a transaction with one.
pub goes : (p : GhostProtocol) (s : GhostState) (t : ℕ) → is_granted (step p s t op.Go).0 ≡ true → (b : Scan) × ((standing s.state t).scan ≡ Some b)
goes p s t g = let a = allowed p s t op.Go (granted_allowed p s t op.Go (refusal_of p.table s.state t op.Go) g) in a_scan (standing s.state t).scan a.scans

-- Replies --

abort_by : (p : GhostProtocol) (s : GhostState) (t : ℕ) (r : Option Refusal) → is_plain (unless_refused p s t op.Abort r).0 ≡ false
abort_by p s t (Some r) = refl
abort_by p s t None = refl

-- No plain reply is that of an abort.
pub abort_plain : (p : GhostProtocol) (s : GhostState) (t : ℕ) → is_plain (step p s t op.Abort).0 ≡ false
abort_plain p s t = abort_by p s t (refusal_of p.table s.state t op.Abort)

back_by : (p : GhostProtocol) (s : GhostState) (t : ℕ) (r : Option Refusal) → is_plain (unless_refused p s t op.Back r).0 ≡ false
back_by p s t (Some r) = refl
back_by p s t None = by (standing s.state t).changes
  where
    by : (cs : Changes) → is_plain (one_taken_back s t cs).0 ≡ false
    by [] = refl
    by (c ∷ cs) = refl

pub back_plain : (p : GhostProtocol) (s : GhostState) (t : ℕ) → is_plain (step p s t op.Back).0 ≡ false
back_plain p s t = back_by p s t (refusal_of p.table s.state t op.Back)

look_replies : (p : GhostProtocol) (s : GhostState) (t : ℕ) (rs : List Request) (c : Scan) (n : Name) (us : List ℕ) → IsScanReply (granted_or_blocked p s t rs (looked s.state.map (standing s.state t) c n) s.ghosts us).0
look_replies p s t rs c n (u ∷ us) = tt
look_replies p s t rs c End [] = tt
look_replies p s t rs c (Key k) [] = by (nat_le k c.hi)
  where
    a : Active
    a = standing s.state t

    on : (rows : List (ℕ × ℕ)) (at_end : Bool)
        → IsScanReply (granted_or_blocked p s t rs (if at_end then scan_ended s.state.map a rows else effect (reply.Going k) s.state.map (record a { scan = Some (record { lo = suc k; hi = c.hi; rows = rows }) })) s.ghosts []).0
    on rows true = tt
    on rows false = tt

    by : (within : Bool) → IsScanReply (granted_or_blocked p s t rs (if within then name_read s.state.map a c.hi k (rows_with c.rows k (get s.state.map k)) else scan_ended s.state.map a c.rows) s.ghosts []).0
    by true = on (rows_with c.rows k (get s.state.map k)) (k == c.hi)
    by false = tt

go_by : (p : GhostProtocol) (s : GhostState) (t : ℕ) (c : Option Scan) → IsScanReply (attempted_scan p s t c).0
go_by p s t None = tt
go_by p s t (Some c) =
    let n = name_from s c.lo in
    let rs = look_requests p n c.hi in
    look_replies p s t rs c n (blockers p.table s.state.locks t rs)

go_unless : (p : GhostProtocol) (s : GhostState) (t : ℕ) (r : Option Refusal) → IsScanReply (unless_refused p s t op.Go r).0
go_unless p s t (Some r) = tt
go_unless p s t None = go_by p s t (standing s.state t).scan

-- The replies of a scan that goes on.
pub go_replies : (p : GhostProtocol) (s : GhostState) (t : ℕ) → IsScanReply (step p s t op.Go).0
go_replies p s t = go_unless p s t (refusal_of p.table s.state t op.Go)
