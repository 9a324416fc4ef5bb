-- A step in an index with ghosts is of one of the kinds that a log tells apart: it changes nothing, is granted, ends its transaction, or undoes a change.
use Rattle.std.specs.Prelude.{◌≡◌, ℕ, suc, Bool, true, false, not, ◌==◌, ◌&&◌, nat_le, List, [], ◌∷◌, Option, Some, None, is_some, unwrap_or, refl, if◌then◌else◌, length}
use Rattle.std.proofs.Common.{ap, inl, inr}
use Rattle.kr_model.specs.declared.Name.{Name}
use Rattle.kr_model.specs.declared.Name.TheVariants.{Key, End}
use Rattle.kr_model.specs.declared.Op.{Op}
use Rattle.kr_model.specs.declared.Op.TheVariants as op
use Rattle.kr_model.specs.declared.Reply.TheVariants as reply
use Rattle.kr_model.specs.declared.Refusal.{Refusal}
use Rattle.kr_model.specs.declared.Refusal.TheVariants as refusal
use Rattle.kr_model.specs.declared.Row.TheVariants as row
use Rattle.kr_model.specs.Map.{Map, Changes, get}
use Rattle.kr_model.specs.Locks.{Request, own, blockers}
use Rattle.kr_model.specs.State.{State, Active, Scan, idle, active_of, standing, has_ended, is_scanning, is_rolling}
use Rattle.kr_model.specs.Step.{Effect, effect, fetched, inserted, deleted, updated, scan_ended, refusal_of, is_full, goes_on, takes_back}
use Rattle.kr_model.proofs.LogReads.{Adds, adds_answer, adds_begins, adds_goes_on, adds_ends, EffectAdds, adds_fetch, adds_insert, adds_delete, adds_update}
use Rattle.kr_model.proofs.KindsOfSteps.{Kind, not_refused}
use Rattle.kr_ghost.specs.Protocol.{GhostProtocol}
use Rattle.kr_ghost.specs.State.{GhostState, name_from, stand, ghosts_with}
use Rattle.kr_ghost.specs.Step.{Outcome, keyed_requests, insert_requests, look_requests, granted_or_blocked, rows_with, name_read, looked, attempted_scan, one_taken_back, performed, unless_refused, step}

-- The kind of what comes of an attempt.
abbrev pub KindOf : GhostState → ℕ → Op → Outcome → Type 0
KindOf s t o x = Kind s.state t o x.0 x.1.state

attempt_kind : (p : GhostProtocol) (s : GhostState) (t : ℕ) (o : Op) (rs : List Request) (e : Effect) (ghosts us : List ℕ) → has_ended s.state t ≡ false → is_rolling s.state t ≡ false
    → EffectAdds o (is_scanning s.state t) e → KindOf s t o (granted_or_blocked p s t rs e ghosts us)
attempt_kind p s t o rs e ghosts (u ∷ us) works unrolled adds = inl (refl, refl)
attempt_kind p s t o rs e ghosts [] works unrolled adds =
    inr (inl record { standing = e.standing; active = refl; ended = refl; works = works; unrolled = unrolled; adds = adds })

-- A scan's look at a name, which ends the scan or goes on with it.
look_adds : (o : Op) (b : Bool) → ((rows : List (ℕ × ℕ)) → Adds o (reply.Rows rows) b false) → ((k : ℕ) → Adds o (reply.Going k) b true)
    → (m : Map) (a : Active) (c : Scan) (n : Name) → EffectAdds o b (looked m a c n)
look_adds o b ends goes m a c End = ends c.rows
look_adds o b ends goes m a c (Key k) = by (nat_le k c.hi)
  where
    on : (rows : List (ℕ × ℕ)) (d : Bool) → EffectAdds o b (if d then scan_ended m a rows else effect (reply.Going k) m (record a { scan = Some (record { lo = suc k; hi = c.hi; rows = rows }) }))
    on rows true = ends rows
    on rows false = goes k

    by : (d : Bool) → EffectAdds o b (if d then name_read m a c.hi k (rows_with c.rows k (get m k)) else scan_ended m a c.rows)
    by true = on (rows_with c.rows k (get m k)) (k == c.hi)
    by false = ends c.rows

look_kind : (p : GhostProtocol) (s : GhostState) (t : ℕ) (o : Op) (c : Scan) → has_ended s.state t ≡ false → is_rolling s.state t ≡ false
    → ((rows : List (ℕ × ℕ)) → Adds o (reply.Rows rows) (is_scanning s.state t) false) → ((k : ℕ) → Adds o (reply.Going k) (is_scanning s.state t) true)
    → KindOf s t o (attempted_scan p s t (Some c))
look_kind p s t o c works unrolled ends goes =
    let n = name_from s c.lo in
    let rs = look_requests p n c.hi in
    attempt_kind p s t o rs (looked s.state.map (standing s.state t) c n) s.ghosts (blockers p.table s.state.locks t rs) works unrolled
    (look_adds o (is_scanning s.state t) ends goes s.state.map (standing s.state t) c n)

go_kind : (p : GhostProtocol) (s : GhostState) (t : ℕ) (c : Option Scan) → (standing s.state t).scan ≡ c → has_ended s.state t ≡ false → is_rolling s.state t ≡ false
    → KindOf s t op.Go (attempted_scan p s t c)
go_kind p s t None e works unrolled = inl (refl, refl)
go_kind p s t (Some c) e works unrolled =
    look_kind p s t op.Go c works unrolled (λ rows. adds_ends rows (is_scanning s.state t) (ap is_some e)) (λ k. adds_goes_on k (is_scanning s.state t) (ap is_some e))

-- Who has changes is active.
has_changes : (s : State) (t : ℕ) (x : Option Active) (c : ℕ × Option ℕ) (cs : Changes) → active_of s t ≡ x → (unwrap_or x idle).changes ≡ c ∷ cs → is_some (active_of s t) ≡ true
has_changes s t (Some a) c cs is e = ap is_some is
has_changes s t None c cs is e = absurd (cc)

back_kind : (s : GhostState) (t : ℕ) (cs : Changes) → (standing s.state t).changes ≡ cs → has_ended s.state t ≡ false → KindOf s t op.Back (one_taken_back s t cs)
back_kind s t [] e works = inl (refl, refl)
back_kind s t (c ∷ cs) e works =
    inr (inr (inr record {
      standing = record { scan = None; changes = cs; rolling = true };
      active = refl;
      ended = refl;
      works = works;
      present = has_changes s.state t (active_of s.state t) c cs refl e;
      rolls = refl;
      left = length cs;
      back = refl;
      undone = refl;
    }))

-- What an operation does that isn't refused.
performed_kind : (p : GhostProtocol) (s : GhostState) (t : ℕ) (o : Op) → has_ended s.state t ≡ false → (goes_on o ≡ false → is_scanning s.state t ≡ false) → (takes_back o ≡ false → is_rolling s.state t ≡ false)
    → KindOf s t o (performed p s t o)
performed_kind p s t (op.Fetch k) works rest unrolled =
    let rs = keyed_requests p row.FetchHit k (name_from s k) (stand s k) in
    attempt_kind p s t (op.Fetch k) rs (fetched s.state.map (standing s.state t) (get s.state.map k)) s.ghosts (blockers p.table s.state.locks t rs) works (unrolled refl)
    (adds_fetch s.state.map (standing s.state t) k (get s.state.map k) (is_scanning s.state t) (rest refl) (rest refl))
performed_kind p s t (op.Insert k v) works rest unrolled =
    let rs = insert_requests p k (name_from s k) (own s.state.locks t (name_from s k)) (name_from s (suc k)) (stand s k) in
    attempt_kind p s t (op.Insert k v) rs (inserted s.state.map (standing s.state t) k v (get s.state.map k)) (if is_some (get s.state.map k) then s.ghosts else ghosts_with s.ghosts k (Some v))
    (blockers p.table s.state.locks t rs) works (unrolled refl)
    (adds_insert s.state.map (standing s.state t) k v (get s.state.map k) (is_scanning s.state t) (rest refl) (rest refl))
performed_kind p s t (op.Delete k) works rest unrolled =
    let rs = keyed_requests p row.Delete k (name_from s k) (stand s k) in
    attempt_kind p s t (op.Delete k) rs (deleted s.state.map (standing s.state t) k (get s.state.map k)) (if is_some (get s.state.map k) then ghosts_with s.ghosts k None else s.ghosts)
    (blockers p.table s.state.locks t rs) works (unrolled refl)
    (adds_delete s.state.map (standing s.state t) k (get s.state.map k) (is_scanning s.state t) (rest refl) (rest refl))
performed_kind p s t (op.Update k v) works rest unrolled =
    let rs = keyed_requests p row.Update k (name_from s k) (stand s k) in
    attempt_kind p s t (op.Update k v) rs (updated s.state.map (standing s.state t) k v (get s.state.map k)) s.ghosts (blockers p.table s.state.locks t rs) works (unrolled refl)
    (adds_update s.state.map (standing s.state t) k v (get s.state.map k) (is_scanning s.state t) (rest refl) (rest refl))
performed_kind p s t (op.Scan lo hi) works rest unrolled =
    look_kind p s t (op.Scan lo hi) (record { lo = lo; hi = hi; rows = [] }) works (unrolled refl)
    (λ rows. adds_answer (op.Scan lo hi) (reply.Rows rows) (is_scanning s.state t) (rest refl) (λ l u. refl) refl refl refl (λ u f. refl) (λ os. refl))
    (λ k. adds_begins lo hi k (is_scanning s.state t) (rest refl))
performed_kind p s t op.Go works rest unrolled = go_kind p s t (standing s.state t).scan refl works (unrolled refl)
performed_kind p s t op.Commit works rest unrolled = inr (inr (inl record { active = refl; ended = refl; works = works; kept = inl (refl, refl, unrolled refl) }))
performed_kind p s t op.Abort works rest unrolled = inr (inr (inl record { active = refl; ended = refl; works = works; kept = inr refl }))
performed_kind p s t op.Back works rest unrolled = back_kind s t (standing s.state t).changes refl works

not_busy : (b c : Bool) → (b && not c) ≡ false → c ≡ false → b ≡ false
not_busy true true h e = absurd (cc)
not_busy true false h e = absurd (cc)
not_busy false c h e = refl

unless_kind : (p : GhostProtocol) (s : GhostState) (t : ℕ) (o : Op) (r : Option Refusal) → refusal_of p.table s.state t o ≡ r → KindOf s t o (unless_refused p s t o r)
unless_kind p s t o (Some r) e = inl (refl, refl)
unless_kind p s t o None e =
    let ended = not_refused (has_ended s.state t) refusal.Ended _ e in
    let full = not_refused (is_full s.state t) refusal.Full _ ended.1 in
    let rolls = not_refused (is_rolling s.state t && not (takes_back o)) refusal.RollingBack _ full.1 in
    let busy = not_refused (is_scanning s.state t && not (goes_on o)) refusal.Busy _ rolls.1 in
    performed_kind p s t o ended.0 (not_busy (is_scanning s.state t) (goes_on o) busy.0) (not_busy (is_rolling s.state t) (takes_back o) rolls.0)

-- Each step is of one of the kinds.
pub kind_of : (p : GhostProtocol) (s : GhostState) (t : ℕ) (o : Op) → KindOf s t o (step p s t o)
kind_of p s t o = unless_kind p s t o (refusal_of p.table s.state t o) refl
