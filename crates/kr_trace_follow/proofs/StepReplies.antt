-- Which replies steps have.
use Rattle.std.specs.Prelude.{◌≡◌, ℕ, Bool, true, false, not, ◌&&◌, ◌==◌, nat_le, cond, List, [], ◌∷◌, ◌++◌, Option, Some, None, is_some, unwrap_or, length, refl}
use Rattle.std.proofs.Common.{ap, arith}
use Rattle.kr_model.specs.declared.Op.{Op}
use Rattle.kr_model.specs.declared.Op.TheVariants as op
use Rattle.kr_model.specs.declared.Refusal.{Refusal}
use Rattle.kr_model.specs.declared.Refusal.TheVariants as refusal
use Rattle.kr_model.specs.declared.Reply.{Reply}
use Rattle.kr_model.specs.declared.Reply.TheVariants as reply
use Rattle.kr_model.specs.Protocol.{Protocol}
use Rattle.kr_model.specs.Locks.{Request, blockers}
use Rattle.kr_model.specs.declared.Step.TheVariants as attempt
use Rattle.kr_model.specs.Log.{Log, no_log, step_logged, logged}
use Rattle.kr_model.specs.declared.Name.{Name}
use Rattle.kr_model.specs.declared.Name.TheVariants.{Key, End}
use Rattle.kr_model.specs.Map.{Map, get}
use Rattle.kr_model.specs.Plan.{plan_of, requests}
use Rattle.kr_model.specs.Run.{is_granted}
use Rattle.kr_model.specs.State.{Scan, Active, State, standing, has_ended, is_scanning, is_rolling}
use Rattle.kr_model.specs.Step.{step, refusal_of, unless_refused, granted_or_blocked, attempted_scan, looked, row_read, scan_ended, name_to_look, is_full, goes_on, takes_back, is_go, one_taken_back}
use Rattle.kr_model.proofs.KindsOfSteps.{not_refused}
use Rattle.kr_model.proofs.LogReads.{event}

-- What isn't refused --

granted_allowed : (p : Protocol) (s : State) (t : ℕ) (o : Op) (r : Option Refusal) → is_granted (unless_refused p s t o r).0 ≡ true → r ≡ None
granted_allowed p s t o (Some r) h = absurd (cc)
granted_allowed p s t o None h = refl

pub no_scan : (c : Option Scan) (goes : Bool) → (is_some c && not goes) ≡ false → goes ≡ false → c ≡ None
no_scan None goes h e = refl
no_scan (Some c) true h e = absurd (cc)
no_scan (Some c) false h e = let no : true ≡ false = h in absurd (cc)

-- A step that is granted, and doesn't go on with a scan or undo changes, is of a transaction without a scan in progress.
pub rests : (p : Protocol) (s : State) (t : ℕ) (o : Op) → is_granted (step p s t o).0 ≡ true → goes_on o ≡ false → (standing s t).scan ≡ None
rests p s t o g e =
    let none = granted_allowed p s t o (refusal_of p s t o) g in
    let ended = not_refused (has_ended s t) refusal.Ended _ none in
    let full = not_refused (is_full s t) refusal.Full _ ended.1 in
    let rolls = not_refused (is_rolling s t && not (takes_back o)) refusal.RollingBack _ full.1 in
    let busy = not_refused (is_scanning s t && not (goes_on o)) refusal.Busy _ rolls.1 in
    no_scan (standing s t).scan (goes_on o) busy.0 e

pub a_scan : (c : Option Scan) → (not (is_some c) && true) ≡ false → (b : Scan) × (c ≡ Some b)
a_scan None h = absurd (let no : true ≡ false = h in cc)
a_scan (Some c) h = (c, refl)

-- One that goes on with a scan is of a transaction with one.
pub goes : (p : Protocol) (s : State) (t : ℕ) → is_granted (step p s t op.Go).0 ≡ true → (b : Scan) × ((standing s t).scan ≡ Some b)
goes p s t g =
    let none = granted_allowed p s t op.Go (refusal_of p s t op.Go) g in
    let ended = not_refused (has_ended s t) refusal.Ended _ none in
    let full = not_refused (is_full s t) refusal.Full _ ended.1 in
    let rolls = not_refused (is_rolling s t && not (takes_back op.Go)) refusal.RollingBack _ full.1 in
    let busy = not_refused (is_scanning s t && not (goes_on op.Go)) refusal.Busy _ rolls.1 in
    let scans = not_refused (not (is_scanning s t) && is_go op.Go) refusal.NoScan _ busy.1 in
    a_scan (standing s t).scan scans.0

-- Replies --

-- A reply that neither ends a transaction nor undoes a change, and is granted.
abbrev pub is_plain : Reply → Bool
is_plain reply.Committed = false
is_plain reply.Aborted = false
is_plain (reply.Undone n) = false
is_plain (reply.Blocked us) = false
is_plain (reply.Refused r) = false
is_plain _ = true

pub plain_granted : (a : Reply) → is_plain a ≡ true → is_granted a ≡ true
plain_granted (reply.Blocked us) h = absurd (cc)
plain_granted (reply.Refused r) h = absurd (cc)
plain_granted _ h = refl

-- What adds an operation to a log has a plain reply.
pub adds_plain : (t : ℕ) (o : Op) (a : Reply) → ((l : Log) (u : ℕ) → logged l (event u o, a) ≡ step_logged l u o a) → is_plain a ≡ true
adds_plain t o reply.Committed logs = absurd (let e : 0 ≡ 1 = ap (λ (l : Log). length l.unfinished) (logs no_log t) in omega arith)
adds_plain t o reply.Aborted logs = absurd (let e : 0 ≡ 1 = ap (λ (l : Log). length l.unfinished) (logs no_log t) in omega arith)
adds_plain t o (reply.Undone n) logs = absurd (let e : 0 ≡ 1 = ap (λ (l : Log). length l.unfinished) (logs no_log t) in omega arith)
adds_plain t o (reply.Blocked us) logs = absurd (let e : 0 ≡ 1 = ap (λ (l : Log). length l.unfinished) (logs no_log t) in omega arith)
adds_plain t o (reply.Refused r) logs = absurd (let e : 0 ≡ 1 = ap (λ (l : Log). length l.unfinished) (logs no_log t) in omega arith)
adds_plain t o _ logs = refl

abort_by : (p : Protocol) (s : State) (t : ℕ) (r : Option Refusal) → is_plain (unless_refused p s t op.Abort r).0 ≡ false
abort_by p s t (Some r) = refl
abort_by p s t None = refl

-- No plain reply is that of an abort.
pub abort_plain : (p : Protocol) (s : State) (t : ℕ) → is_plain (step p s t op.Abort).0 ≡ false
abort_plain p s t = abort_by p s t (refusal_of p s t op.Abort)

back_none : (p : Protocol) (s : State) (t : ℕ) (r : Option Refusal) → is_plain (unless_refused p s t op.Back r).0 ≡ false
back_none p s t (Some r) = refl
back_none p s t None = by (standing s t).changes
  where
    by : (cs : List (ℕ × Option ℕ)) → is_plain (one_taken_back s t cs).0 ≡ false
    by [] = refl
    by (c ∷ cs) = refl

pub back_plain : (p : Protocol) (s : State) (t : ℕ) → is_plain (step p s t op.Back).0 ≡ false
back_plain p s t = back_none p s t (refusal_of p s t op.Back)

-- The replies of a scan.
abbrev pub IsScanReply : Reply → Type 0
IsScanReply (reply.Going k) = Unit {0}
IsScanReply (reply.Rows rows) = Unit {0}
IsScanReply (reply.Blocked us) = Unit {0}
IsScanReply (reply.Refused r) = Unit {0}
IsScanReply _ = ⊥

row_replies : (m : Map) (a : Active) (rows : List (ℕ × ℕ)) (c : Scan) (k : ℕ) (at_end : Bool)
    → IsScanReply (cond at_end (scan_ended m a rows) (record { reply = reply.Going k; map = m; standing = record a { scan = Some c } })).reply
row_replies m a rows c k true = tt
row_replies m a rows c k false = tt

key_replies : (m : Map) (a : Active) (c : Scan) (k v : ℕ) (within : Bool) → IsScanReply (cond within (row_read m a c k v) (scan_ended m a c.rows)).reply
key_replies m a c k v true = row_replies m a (c.rows ++ (k, v) ∷ []) (record { lo = c.lo; hi = c.hi; rows = c.rows ++ (k, v) ∷ [] }) k (k == c.hi)
key_replies m a c k v false = tt

look_replies : (p : Protocol) (s : State) (t : ℕ) (rs : List Request) (c : Scan) (n : Name) (us : List ℕ) → IsScanReply (granted_or_blocked p s t rs (looked s.map (standing s t) c n) us).0
look_replies p s t rs c n (u ∷ us) = tt
look_replies p s t rs c End [] = tt
look_replies p s t rs c (Key k) [] = key_replies s.map (standing s t) c k (unwrap_or (get s.map k) 0) (nat_le k c.hi)

go_by : (p : Protocol) (s : State) (t : ℕ) (c : Option Scan) → IsScanReply (attempted_scan p s t c).0
go_by p s t None = tt
go_by p s t (Some c) =
    let n = name_to_look s.map c in
    let rs = requests (plan_of p s.map s.locks t (attempt.Look n c.hi)) in
    look_replies p s t rs c n (blockers p s.locks t rs)

pub go_replies : (p : Protocol) (s : State) (t : ℕ) (r : Option Refusal) → IsScanReply (unless_refused p s t op.Go r).0
go_replies p s t (Some r) = tt
go_replies p s t None = go_by p s t (standing s t).scan
