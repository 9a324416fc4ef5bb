-- Runs with one more move.
use Rattle.std.proofs.Common.{◌≡◌, ℕ, Bool, true, false, List, [], ◌∷◌, ◌++◌, Option, Some, None, refl, ap, sym, ◌∙◌, map, cond}
use Rattle.std.proofs.lemmas.Bool.{false≢true}
use Rattle.std.proofs.lemmas.List.{map-append}
use Rattle.kr_model.specs.declared.Name.{Name}
use Rattle.kr_model.specs.declared.Name.TheVariants.{Key, End}
use Rattle.kr_model.specs.declared.Op.{Op}
use Rattle.kr_model.specs.declared.Op.TheVariants as op
use Rattle.kr_model.specs.declared.Refusal.{Refusal}
use Rattle.kr_model.specs.declared.Reply.TheVariants as reply
use Rattle.kr_model.specs.Map.{Map, Changes, get}
use Rattle.kr_model.specs.Locks.{Request, own, blockers}
use Rattle.kr_model.specs.declared.Row.TheVariants as row
use Rattle.kr_model.specs.Run.{is_granted}
use Rattle.kr_model.specs.State.{Active, Scan, standing}
use Rattle.kr_model.specs.Step.{Effect, refusal_of, fetched, inserted, deleted, updated, scan_ended, effect}
use Rattle.std.specs.Prelude.{nat_le, is_some, if◌then◌else◌, suc, ◌==◌}
use Rattle.kr_ghost.specs.declared.moves.Move.{Move}
use Rattle.kr_ghost.specs.declared.moves.Move.TheVariants.{Attempt, Purge}
use Rattle.kr_ghost.specs.Protocol.{GhostProtocol}
use Rattle.kr_ghost.specs.State.{GhostState, name_from, stand, ghosts_with}
use Rattle.kr_ghost.specs.Step.{Outcome, step, purged, may_purge, without_ghost, granted_or_blocked, attempted, attempted_scan, keyed_requests, insert_requests, look_requests, looked, name_read, rows_with, one_taken_back, performed, unless_refused}
use Rattle.kr_ghost.specs.Run.{run}
use Rattle.kr_ghost_run.specs.declared.ran.Answer.{Answer}
use Rattle.kr_ghost_run.specs.declared.ran.Answer.TheVariants as answer
use Rattle.kr_ghost_run.specs.Ran.{answers}

-- The state after a move from s, and the answer to it.
abbrev pub after : GhostProtocol → GhostState → Move → GhostState
after p s (Attempt e) = (step p s e.txn e.op).1
after p s (Purge k) = purged p s k

abbrev pub answer_to : GhostProtocol → GhostState → Move → Answer
answer_to p s (Attempt e) = answer.Step (step p s e.txn e.op).0
answer_to p s (Purge k) = answer.Purge (may_purge p s k)

-- The last state of a run with one more move.
pub last_more : (p : GhostProtocol) (s : GhostState) (moves : List Move) (m : Move) → (run p s (moves ++ m ∷ [])).last ≡ after p ((run p s moves).last) m
last_more p s [] (Attempt e) = refl
last_more p s [] (Purge k) = refl
last_more p s (Attempt e ∷ moves) m = last_more p (step p s e.txn e.op).1 moves m
last_more p s (Purge k ∷ moves) m = last_more p (purged p s k) moves m

-- Its answers.
pub answers_more : (p : GhostProtocol) (s : GhostState) (moves : List Move) (m : Move) → answers p s (moves ++ m ∷ []) ≡ answers p s moves ++ answer_to p ((run p s moves).last) m ∷ []
answers_more p s [] (Attempt e) = refl
answers_more p s [] (Purge k) = refl
answers_more p s (Attempt e ∷ moves) m = ap (λ l. answer.Step (step p s e.txn e.op).0 ∷ l) (answers_more p (step p s e.txn e.op).1 moves m)
answers_more p s (Purge k ∷ moves) m = ap (λ l. answer.Purge (may_purge p s k) ∷ l) (answers_more p (purged p s k) moves m)

-- A purge that takes nothing away changes nothing.
pub kept : (p : GhostProtocol) (s : GhostState) (k : ℕ) → may_purge p s k ≡ false → purged p s k ≡ s
kept p s k is = ap (λ (b : Bool). if b then without_ghost p s k else s) is

-- A step that isn't granted changes nothing --

-- Where it isn't granted, the state stays.
abbrev Stays : GhostState → Outcome → Type 0
Stays s x = is_granted x.0 ≡ false → x.1 ≡ s

attempt_stays : (p : GhostProtocol) (s : GhostState) (t : ℕ) (rs : List Request) (e : Effect) (ghosts us : List ℕ) → is_granted e.reply ≡ true → Stays s (granted_or_blocked p s t rs e ghosts us)
attempt_stays p s t rs e ghosts [] grants is = absurd (false≢true (sym is ∙ grants))
attempt_stays p s t rs e ghosts (u ∷ us) grants is = refl

fetch_grants : (m : Map) (a : Active) (v : Option ℕ) → is_granted (fetched m a v).reply ≡ true
fetch_grants m a (Some v) = refl
fetch_grants m a None = refl

insert_grants : (m : Map) (a : Active) (k v : ℕ) (there : Option ℕ) → is_granted (inserted m a k v there).reply ≡ true
insert_grants m a k v (Some w) = refl
insert_grants m a k v None = refl

delete_grants : (m : Map) (a : Active) (k : ℕ) (there : Option ℕ) → is_granted (deleted m a k there).reply ≡ true
delete_grants m a k (Some w) = refl
delete_grants m a k None = refl

update_grants : (m : Map) (a : Active) (k v : ℕ) (there : Option ℕ) → is_granted (updated m a k v there).reply ≡ true
update_grants m a k v (Some w) = refl
update_grants m a k v None = refl

look_grants : (m : Map) (a : Active) (c : Scan) (n : Name) → is_granted (looked m a c n).reply ≡ true
look_grants m a c End = refl
look_grants m a c (Key k) = by (nat_le k c.hi)
  where
    on : (rows : List (ℕ × ℕ)) (d : Bool) → is_granted (if d then scan_ended m a rows else effect (reply.Going k) m (record a { scan = Some (record { lo = suc k; hi = c.hi; rows = rows }) })).reply ≡ true
    on rows true = refl
    on rows false = refl

    by : (d : Bool) → is_granted (if d then name_read m a c.hi k (rows_with c.rows k (get m k)) else scan_ended m a c.rows).reply ≡ true
    by true = on (rows_with c.rows k (get m k)) (k == c.hi)
    by false = refl

scan_stays : (p : GhostProtocol) (s : GhostState) (t : ℕ) (c : Option Scan) → Stays s (attempted_scan p s t c)
scan_stays p s t None is = refl
scan_stays p s t (Some c) is =
    let n = name_from s c.lo in
    let rs = look_requests p n c.hi in
    attempt_stays p s t rs (looked s.state.map (standing s.state t) c n) s.ghosts (blockers p.table s.state.locks t rs) (look_grants s.state.map (standing s.state t) c n) is

back_stays : (s : GhostState) (t : ℕ) (cs : Changes) → Stays s (one_taken_back s t cs)
back_stays s t [] is = refl
back_stays s t (c ∷ cs) is = absurd (false≢true (sym is))

performed_stays : (p : GhostProtocol) (s : GhostState) (t : ℕ) (o : Op) → Stays s (performed p s t o)
performed_stays p s t (op.Fetch k) is =
    let rs = keyed_requests p row.FetchHit k (name_from s k) (stand s k) in
    attempt_stays p s t rs (fetched s.state.map (standing s.state t) (get s.state.map k)) s.ghosts (blockers p.table s.state.locks t rs) (fetch_grants s.state.map (standing s.state t) (get s.state.map k)) is
performed_stays p s t (op.Scan lo hi) is = scan_stays p s t (Some (record { lo = lo; hi = hi; rows = [] })) is
performed_stays p s t op.Go is = scan_stays p s t (standing s.state t).scan is
performed_stays p s t (op.Insert k v) is =
    let rs = insert_requests p k (name_from s k) (own s.state.locks t (name_from s k)) (name_from s (suc k)) (stand s k) in
    attempt_stays p s t rs (inserted s.state.map (standing s.state t) k v (get s.state.map k)) (if is_some (get s.state.map k) then s.ghosts else ghosts_with s.ghosts k (Some v))
    (blockers p.table s.state.locks t rs) (insert_grants s.state.map (standing s.state t) k v (get s.state.map k)) is
performed_stays p s t (op.Delete k) is =
    let rs = keyed_requests p row.Delete k (name_from s k) (stand s k) in
    attempt_stays p s t rs (deleted s.state.map (standing s.state t) k (get s.state.map k)) (if is_some (get s.state.map k) then ghosts_with s.ghosts k None else s.ghosts)
    (blockers p.table s.state.locks t rs) (delete_grants s.state.map (standing s.state t) k (get s.state.map k)) is
performed_stays p s t (op.Update k v) is =
    let rs = keyed_requests p row.Update k (name_from s k) (stand s k) in
    attempt_stays p s t rs (updated s.state.map (standing s.state t) k v (get s.state.map k)) s.ghosts (blockers p.table s.state.locks t rs) (update_grants s.state.map (standing s.state t) k v (get s.state.map k)) is
performed_stays p s t op.Commit is = absurd (false≢true (sym is))
performed_stays p s t op.Abort is = absurd (false≢true (sym is))
performed_stays p s t op.Back is = back_stays s t (standing s.state t).changes is

unless_stays : (p : GhostProtocol) (s : GhostState) (t : ℕ) (o : Op) (r : Option Refusal) → Stays s (unless_refused p s t o r)
unless_stays p s t o (Some r) is = refl
unless_stays p s t o None is = performed_stays p s t o is

pub step_stays : (p : GhostProtocol) (s : GhostState) (t : ℕ) (o : Op) → is_granted (step p s t o).0 ≡ false → (step p s t o).1 ≡ s
step_stays p s t o is = unless_stays p s t o (refusal_of p.table s.state t o) is
