-- Runs are the histories of steps of which none was refused memory.
use Rattle.std.specs.Prelude.{◌≡◌, ℕ, Bool, true, false, not, ◌&&◌, ◌==◌, nat_le, if◌then◌else◌, unwrap_or, Option, Some, None, List, [], ◌∷◌, refl}
use Rattle.std.proofs.Common.{sym, ◌∙◌, ap, inl, inr}
use Rattle.kr_model.specs.declared.Event.{Event}
use Rattle.kr_model.specs.declared.Op.{Op}
use Rattle.kr_model.specs.declared.Name.{Name}
use Rattle.kr_model.specs.declared.Name.TheVariants.{Key, End}
use Rattle.kr_model.specs.declared.Step.{Step}
use Rattle.kr_model.specs.declared.Step.TheVariants as attempt
use Rattle.kr_model.specs.declared.Op.TheVariants as op
use Rattle.kr_model.specs.declared.Refusal.{Refusal}
use Rattle.kr_model.specs.declared.Reply.{Reply}
use Rattle.kr_model.specs.declared.Reply.TheVariants as reply
use Rattle.kr_model.specs.declared.Refusal.TheVariants as refusal
use Rattle.kr_model.specs.Protocol.{Protocol}
use Rattle.kr_model.specs.State.{State, Active, Scan, has_ended, standing, is_scanning, is_rolling, has_nothing_left}
use Rattle.kr_model.specs.Map.{Map, Changes, get}
use Rattle.kr_model.specs.Locks.{Request, blockers}
use Rattle.kr_model.specs.Plan.{plan_of, requests}
use Rattle.kr_model.specs.Step.{Effect, Outcome, is_full, takes_back, goes_on, is_go, is_bad_range, is_update, is_back, refusal_of, fetched, inserted, deleted, updated, row_read, looked, name_to_look, granted_or_blocked, attempted, attempted_scan, one_taken_back, performed, unless_refused, step, IsStep}
use Rattle.kr_model.specs.Run.{Entry, Trace, run, events_of, AreSteps, HadMemory}

is_outcome : (p : Protocol) (s : State) (t : ℕ) (o : Op) (r : Reply) (new : State) → (r ≡ reply.Refused refusal.Memory → ⊥) → IsStep p s t o r new → ◌≡◌ {A = Outcome} (r, new) (step p s t o)
is_outcome p s t o r new had (inl e) = e
is_outcome p s t o r new had (inr b) = absurd (had b.0)

next_entry : (p : Protocol) (e : Event) (r : Reply) (rest : List Entry) (mid new : State) (o : Outcome) → ◌≡◌ {A = Outcome} (r, mid) o → run p mid (events_of rest) ≡ record { history = rest; state = new }
    → ◌≡◌ {A = Trace} (let more = run p o.1 (events_of rest) in record { history = (e, o.0) ∷ more.history; state = more.state }) (record { history = (e, r) ∷ rest; state = new })
next_entry p e r rest mid new o same is =
    ap (λ x. let more = run p x.1 (events_of rest) in let whole : Trace = record { history = (e, x.0) ∷ more.history; state = more.state } in whole) (sym same)
    ∙ ap (λ more. let whole : Trace = record { history = (e, r) ∷ more.history; state = more.state } in whole) is

-- apart from memory, the replies and the state are a function of the protocol, the state at first and the events
pub run_of_steps : (p : Protocol) (s : State) (h : List Entry) (new : State) → AreSteps p s h new → HadMemory h → run p s (events_of h) ≡ record { history = h; state = new }
run_of_steps p s [] new are had = ap (λ x. let whole : Trace = record { history = []; state = x } in whole) (sym are)
run_of_steps p s ((e, r) ∷ rest) new (mid, are) had =
    next_entry p e r rest mid new (step p s e.txn e.op) (is_outcome p s e.txn e.op r mid had.0 are.0) (run_of_steps p mid rest new are.1 had.1)

-- each run is a history of steps
pub steps_of_run : (p : Protocol) (s : State) (events : List Event) → let r = run p s events in AreSteps p s r.history r.state
steps_of_run p s [] = refl
steps_of_run p s (e ∷ es) = let o = step p s e.txn e.op in (o.1, (inl refl, steps_of_run p o.1 es))

-- Where memory is ample, it isn't refused --

-- whether a reply is a refusal of memory
abbrev lacks_memory : Reply → Bool
lacks_memory (reply.Refused refusal.Memory) = true
lacks_memory _ = false

-- whether a refusal is one of memory
abbrev is_memory : Option Refusal → Bool
is_memory (Some refusal.Memory) = true
is_memory _ = false

fetch_has : (m : Map) (a : Active) (g : Option ℕ) → lacks_memory (fetched m a g).reply ≡ false
fetch_has m a None = refl
fetch_has m a (Some v) = refl

insert_has : (m : Map) (a : Active) (k v : ℕ) (g : Option ℕ) → lacks_memory (inserted m a k v g).reply ≡ false
insert_has m a k v None = refl
insert_has m a k v (Some w) = refl

delete_has : (m : Map) (a : Active) (k : ℕ) (g : Option ℕ) → lacks_memory (deleted m a k g).reply ≡ false
delete_has m a k None = refl
delete_has m a k (Some w) = refl

update_has : (m : Map) (a : Active) (k v : ℕ) (g : Option ℕ) → lacks_memory (updated m a k v g).reply ≡ false
update_has m a k v None = refl
update_has m a k v (Some w) = refl

look_has : (m : Map) (a : Active) (c : Scan) (n : Name) → lacks_memory (looked m a c n).reply ≡ false
look_has m a c End = refl
look_has m a c (Key k) = by (nat_le k c.hi) refl
  where
    ends : (x : Bool) → k == c.hi ≡ x → lacks_memory (row_read m a c k (unwrap_or (get m k) 0)).reply ≡ false
    ends true e = rw e refl
    ends false e = rw e refl

    by : (x : Bool) → nat_le k c.hi ≡ x → lacks_memory (looked m a c (Key k)).reply ≡ false
    by true e = rw e (ends (k == c.hi) refl)
    by false e = rw e refl

module _ (p : Protocol) (s : State) (t : ℕ) where
  attempt_has : (rs : List Request) (e : Effect) → lacks_memory e.reply ≡ false → (us : List ℕ) → lacks_memory (granted_or_blocked p s t rs e us).0 ≡ false
  attempt_has rs e h [] = h
  attempt_has rs e h (u ∷ us) = refl

  step_has : (a : Step) (e : Effect) → lacks_memory e.reply ≡ false → lacks_memory (attempted p s t a e).0 ≡ false
  step_has a e h = let rs = requests (plan_of p s.map s.locks t a) in attempt_has rs e h (blockers p s.locks t rs)

  scan_has : (c : Option Scan) → lacks_memory (attempted_scan p s t c).0 ≡ false
  scan_has None = refl
  scan_has (Some c) = let n = name_to_look s.map c in step_has (attempt.Look n c.hi) (looked s.map (standing s t) c n) (look_has s.map (standing s t) c n)

  back_has : (cs : Changes) → lacks_memory (one_taken_back s t cs).0 ≡ false
  back_has [] = refl
  back_has (c ∷ cs) = refl

  performed_has : (o : Op) → lacks_memory (performed p s t o).0 ≡ false
  performed_has (op.Fetch k) = step_has (attempt.Fetch k) (fetched s.map (standing s t) (get s.map k)) (fetch_has s.map (standing s t) (get s.map k))
  performed_has (op.Scan lo hi) = scan_has (Some (record { lo = lo; hi = hi; rows = [] }))
  performed_has op.Go = scan_has (standing s t).scan
  performed_has (op.Insert k v) = step_has (attempt.Insert k) (inserted s.map (standing s t) k v (get s.map k)) (insert_has s.map (standing s t) k v (get s.map k))
  performed_has (op.Delete k) = step_has (attempt.Delete k) (deleted s.map (standing s t) k (get s.map k)) (delete_has s.map (standing s t) k (get s.map k))
  performed_has (op.Update k v) = step_has (attempt.Update k) (updated s.map (standing s t) k v (get s.map k)) (update_has s.map (standing s t) k v (get s.map k))
  performed_has op.Commit = refl
  performed_has op.Abort = refl
  performed_has op.Back = back_has (standing s t).changes

  first_refusal : (b : Bool) (r : Refusal) (x : Option Refusal) → is_memory (Some r) ≡ false → is_memory x ≡ false → is_memory (if b then Some r else x) ≡ false
  first_refusal true r x e h = e
  first_refusal false r x e h = h

  refusal_has : (o : Op) → is_memory (refusal_of p s t o) ≡ false
  refusal_has o =
      first_refusal (has_ended s t) refusal.Ended _ refl
      (first_refusal (is_full s t) refusal.Full _ refl
      (first_refusal (is_rolling s t && not (takes_back o)) refusal.RollingBack _ refl
      (first_refusal (is_scanning s t && not (goes_on o)) refusal.Busy _ refl
      (first_refusal (not (is_scanning s t) && is_go o) refusal.NoScan _ refl
      (first_refusal (is_bad_range o) refusal.BadRange _ refl
      (first_refusal (is_update o && not p.updates) refusal.NoUpdate _ refl
      (first_refusal (has_nothing_left s t && is_back o) refusal.NothingLeft None refl refl)))))))

  unless_has : (o : Op) (x : Option Refusal) → is_memory x ≡ false → lacks_memory (unless_refused p s t o x).0 ≡ false
  unless_has o None h = performed_has o
  unless_has o (Some refusal.Ended) h = refl
  unless_has o (Some refusal.Full) h = refl
  unless_has o (Some refusal.Busy) h = refl
  unless_has o (Some refusal.NoScan) h = refl
  unless_has o (Some refusal.BadRange) h = refl
  unless_has o (Some refusal.NoUpdate) h = refl
  unless_has o (Some refusal.RollingBack) h = refl
  unless_has o (Some refusal.NothingLeft) h = refl
  unless_has o (Some refusal.Memory) h = absurd (cc)

  -- the step where memory is ample
  had_memory : (o : Op) → (step p s t o).0 ≡ reply.Refused refusal.Memory → ⊥
  had_memory o e = no (lacks_memory (step p s t o).0) (unless_has o (refusal_of p s t o) (refusal_has o)) (ap lacks_memory e)
    where
      no : (b : Bool) → b ≡ false → b ≡ true → ⊥
      no b f t = cc

-- no step of a run is refused memory
pub memory_of_run : (p : Protocol) (s : State) (events : List Event) → HadMemory (run p s events).history
memory_of_run p s [] = tt
memory_of_run p s (e ∷ es) = let o = step p s e.txn e.op in (had_memory p s e.txn e.op, memory_of_run p o.1 es)
