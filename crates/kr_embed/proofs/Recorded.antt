-- What a session under a table with ghosts has noted goes with its state.
use Rattle.std.specs.Prelude.{◌≡◌, ℕ, Bool, true, false, not, ◌&&◌, List, [], ◌∷◌, ◌++◌, Option, Some, None, IfSome, Result, Ok, Err, OnOk, OnErr, IsTrue, is_some, refl, if◌then◌else◌}
use Rattle.std.proofs.Common.{sym, subst, inl, inr}
use Rattle.kr_model.specs.declared.Event.{Event}
use Rattle.kr_model.specs.declared.Op.{Op}
use Rattle.kr_model.specs.declared.Op.TheVariants as op
use Rattle.kr_model.specs.declared.Refusal.{Refusal}
use Rattle.kr_model.specs.declared.Reply.{Reply}
use Rattle.kr_model.specs.declared.Reply.TheVariants as reply
use Rattle.kr_model.specs.Map.{Map, Changes}
use Rattle.kr_model.specs.Locks.{Locks}
use Rattle.kr_model.specs.Protocol.{Protocol}
use Rattle.kr_model.specs.State.{State, start, standing, active_of}
use Rattle.kr_model.specs.Step.{refusal_of, takes_back, may_lack_memory}
use Rattle.kr_model.specs.Run.{Entry, committed}
use Rattle.kr_model.specs.Log.{Log, no_log, logged}
use Rattle.kr_model.proofs.KindsOfSteps.{Kind}
use Rattle.kr_model.proofs.LogReads.{event}
use Rattle.kr_model.proofs.ProgramLaws.{ended_stay}
use Rattle.kr_model.proofs.LogSteps.{IsLog, log_silent, log_granted, log_end, log_back}
use Rattle.kr_ghost.specs.Protocol.{GhostProtocol}
use Rattle.kr_ghost.specs.State.{GhostState, opened}
use Rattle.kr_ghost.specs.Step.{Outcome, step, unless_refused, one_taken_back, may_purge, without_ghost, purged}
use Rattle.kr_ghost_machine.specs.Machine.{GhostSteps}
use Rattle.kr_ghost_run.proofs.StepKinds.{kind_of}
use Rattle.kr_cli.specs.GhostTables.{ghosts_of}
use Rattle.kr_cli.specs.declared.ghost_tables.AnyGhostTable.{AnyGhostTable}
use Rattle.kr_txn.specs.Logs.{LogWithRoom, MayNote}
use Rattle.kr_embed.specs.Recorded.{HasRoomFor, IsOwed, IsRecorded, settled}

-- The log of a history --

log_at_start : (opening : Map) → IsLog [] (start opening) no_log
log_at_start opening = record {
  in_order = refl;
  log_in_order = refl;
  same = λ t. refl;
  works = λ t e. refl;
  reads = λ t e r. λ f. refl;
  forward = λ t. tt;
  rolled = λ t e r. absurd (cc);
  ended = tt;
  committed = refl;
}

-- a step of each kind keeps it
kind_keeps : (h : List Entry) (s : State) (l : Log) (e : Event) (a : Reply) (new : State) → Kind s e.txn e.op a new → IsLog h s l → IsLog (h ++ (e, a) ∷ []) new (logged l (e, a))
kind_keeps h s l e a new (inl g) k = subst (λ z. IsLog (h ++ (e, a) ∷ []) z (logged l (e, a))) (sym g.0) (log_silent h s l e.txn e.op a g.1 k)
kind_keeps h s l e a new (inr (inl g)) k = log_granted h s l e.txn e.op a new g k
kind_keeps h s l e a new (inr (inr (inl g))) k = log_end h s l e.txn e.op a new g k
kind_keeps h s l e a new (inr (inr (inr g))) k = log_back h s l e.txn e.op a new g k

-- it doesn't depend on the locks
relocked : (h : List Entry) (s : State) (l : Log) (locks : Locks) → IsLog h s l → IsLog h (record { map = s.map; locks = locks; ended = s.ended; active = s.active }) l
relocked h s l locks k = record {
  in_order = k.in_order;
  log_in_order = k.log_in_order;
  same = k.same;
  works = k.works;
  reads = k.reads;
  forward = k.forward;
  rolled = k.rolled;
  ended = ended_stay s (record { map = s.map; locks = locks; ended = s.ended; active = s.active }) (committed h) (λ u e. e) k.ended;
  committed = k.committed;
}

purge_keeps : (p : GhostProtocol) (s : GhostState) (k : ℕ) (h : List Entry) (l : Log) → IsLog h s.state l → IsLog h (purged p s k).state l
purge_keeps p s k h l is = by (may_purge p s k)
  where
    by : (b : Bool) → IsLog h (if b then without_ghost p s k else s).state l
    by true = relocked h s.state l (without_ghost p s k).state.locks is
    by false = is

step_keeps : (p : GhostProtocol) (s new : GhostState) (h : List Entry) (l : Log) (e : Event) (r : Reply) → step p s e.txn e.op ≡ (r, new) → IsLog h s.state l → IsLog (h ++ (e, r) ∷ []) new.state (logged l (e, r))
step_keeps p s new h l e r is k =
    let o = step p s e.txn e.op in
    subst (λ (x : Outcome). IsLog (h ++ (e, x.0) ∷ []) x.1.state (logged l (e, x.0))) is (kind_keeps h s.state l e o.0 o.1.state (kind_of p s e.txn e.op) k)

-- A session --

-- a session at its start
pub begun : (opening : Map) (s : GhostState) (l : LogWithRoom) (last : Reply) → s ≡ opened opening → l.log ≡ no_log → IsRecorded s l None last
begun opening s l last starts none =
    record { history = []; is_log = subst (λ (z : Log). IsLog [] s.state z) (sym none) (subst (λ (z : GhostState). IsLog [] z.state no_log) (sym starts) (log_at_start opening)); is_owed = tt }

-- a step that was done, whose reply is noted or owed
pub stepped : (p : GhostProtocol) (s new : GhostState) (l m : LogWithRoom) (owed now : Option Event) (last r : Reply) (e : Event) → IsRecorded s l owed last → step p s e.txn e.op ≡ (r, new)
    → settled m.log now r ≡ logged (settled l.log owed last) (e, r) → IfSome now (IsOwed m r) → IsRecorded new m now r
stepped p s new l m owed now last r e k is noted is_owed = record {
  history = k.history ++ (e, r) ∷ [];
  is_log = subst (λ (z : Log). IsLog (k.history ++ (e, r) ∷ []) new.state z) (sym noted) (step_keeps p s new k.history (settled l.log owed last) e r is k.is_log);
  is_owed = is_owed;
}

-- a step that was refused memory
pub settles : (s : GhostState) (l m : LogWithRoom) (owed : Option Event) (last r : Reply) → IsRecorded s l owed last → m.log ≡ settled l.log owed last → IsRecorded s m None r
settles s l m owed last r k is = record { history = k.history; is_log = subst (λ (z : Log). IsLog k.history s.state z) (sym is) k.is_log; is_owed = tt }

-- a purge, and one that may have lacked memory
purges : (p : GhostProtocol) (s new : GhostState) (k : ℕ) (l : LogWithRoom) (owed : Option Event) (last : Reply) → IsRecorded s l owed last → new ≡ purged p s k → IsRecorded new l owed last
purges p s new k l owed last is same =
    record { history = is.history; is_log = subst (λ (z : GhostState). IsLog is.history z.state (settled l.log owed last)) (sym same) (purge_keeps p s k is.history (settled l.log owed last) is.is_log); is_owed = is.is_owed }

pub purge_records : {E : Type 0} (m n : GhostSteps AnyGhostTable) (k : ℕ) (l : LogWithRoom) (owed : Option Event) (last : Reply) (r : Result Bool E) → IsRecorded m.state l owed last
    → OnOk r (n.state ≡ purged (ghosts_of m.protocol) m.state k) → OnErr r (n ≡ m) → IsRecorded n.state l owed last
purge_records m n k l owed last (Ok b) is ok err = purges (ghosts_of m.protocol) m.state n.state k l owed last is ok
purge_records m n k l owed last (Err e) is ok err = subst (λ (z : GhostSteps AnyGhostTable). IsRecorded z.state l owed last) (sym err) is

-- what has committed stays when a reply that is owed is noted
pub committed_stays : (l : LogWithRoom) (owed : Option Event) (last : Reply) → IfSome owed (IsOwed l last) → (settled l.log owed last).committed ≡ l.log.committed
committed_stays l None last is = refl
committed_stays l (Some e) last is = is.1

-- Room --

-- a log with room for a transaction may note any reply to it
ready_notes : (l : LogWithRoom) (e : Event) (a : Reply) → l.ready ≡ Some e.txn → MayNote l e a
ready_notes l e reply.Committed h = inl h
ready_notes l e reply.Aborted h = tt
ready_notes l e (reply.Blocked us) h = tt
ready_notes l e (reply.Refused r) h = tt
ready_notes l e (reply.Undone n) h = tt
ready_notes l e _ h = h

abort_notes : (p : GhostProtocol) (s : GhostState) (t : ℕ) (l : LogWithRoom) (e : Event) (r : Option Refusal) → MayNote l e (unless_refused p s t op.Abort r).0
abort_notes p s t l e (Some r) = tt
abort_notes p s t l e None = tt

taken_back_notes : (s : GhostState) (t : ℕ) (l : LogWithRoom) (e : Event) (cs : Changes) → MayNote l e (one_taken_back s t cs).0
taken_back_notes s t l e [] = tt
taken_back_notes s t l e (c ∷ cs) = tt

back_notes : (p : GhostProtocol) (s : GhostState) (t : ℕ) (l : LogWithRoom) (e : Event) (r : Option Refusal) → MayNote l e (unless_refused p s t op.Back r).0
back_notes p s t l e (Some r) = tt
back_notes p s t l e None = taken_back_notes s t l e (standing s.state t).changes

reply_notes : (p : GhostProtocol) (s : GhostState) (t : ℕ) (o : Op) (l : LogWithRoom) → HasRoomFor l t o → MayNote l (record { txn = t; op = o }) (step p s t o).0
reply_notes p s t op.Abort l h = abort_notes p s t l (event t op.Abort) (refusal_of p.table s.state t op.Abort)
reply_notes p s t op.Back l h = back_notes p s t l (event t op.Back) (refusal_of p.table s.state t op.Back)
reply_notes p s t (op.Fetch k) l h = ready_notes l (event t (op.Fetch k)) (step p s t (op.Fetch k)).0 h
reply_notes p s t (op.Scan lo hi) l h = ready_notes l (event t (op.Scan lo hi)) (step p s t (op.Scan lo hi)).0 h
reply_notes p s t op.Go l h = ready_notes l (event t op.Go) (step p s t op.Go).0 h
reply_notes p s t (op.Insert k v) l h = ready_notes l (event t (op.Insert k v)) (step p s t (op.Insert k v)).0 h
reply_notes p s t (op.Delete k) l h = ready_notes l (event t (op.Delete k)) (step p s t (op.Delete k)).0 h
reply_notes p s t (op.Update k v) l h = ready_notes l (event t (op.Update k v)) (step p s t (op.Update k v)).0 h
reply_notes p s t op.Commit l h = ready_notes l (event t op.Commit) (step p s t op.Commit).0 h

-- a log with room for a step may note its reply
pub room_notes : (p : GhostProtocol) (s new : GhostState) (t : ℕ) (o : Op) (r : Reply) (l : LogWithRoom) → HasRoomFor l t o → step p s t o ≡ (r, new) → MayNote l (record { txn = t; op = o }) r
room_notes p s new t o r l h is = subst (λ (x : Outcome). MayNote l (record { txn = t; op = o }) x.0) is (reply_notes p s t o l h)

by_bools : (b c : Bool) → (b && not c) ≡ true → not c ≡ true
by_bools true c h = h
by_bools false c h = absurd (cc)

-- where a step may lack memory it undoes no changes of an active transaction
pub lacks : (p : Protocol) (s : State) (t : ℕ) (o : Op) → IsTrue (may_lack_memory p s t o) → IsTrue (not (takes_back o && is_some (active_of s t)))
lacks p s t op.Abort h = by_bools (not (is_some (refusal_of p s t op.Abort))) (is_some (active_of s t)) h
lacks p s t op.Back h = by_bools (not (is_some (refusal_of p s t op.Back))) (is_some (active_of s t)) h
lacks p s t _ h = refl

-- so it is with one that doesn't undo changes
pub lacks_room : (s : State) (t : ℕ) (o : Op) → takes_back o ≡ false → IsTrue (not (takes_back o && is_some (active_of s t)))
lacks_room s t o h = rw h refl
