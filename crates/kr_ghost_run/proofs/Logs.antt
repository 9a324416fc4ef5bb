-- The log of a run with ghosts has its committed programs.
use Rattle.std.specs.Prelude.{◌≡◌, ℕ, Bool, true, false, List, [], ◌∷◌, ◌++◌, refl, if◌then◌else◌}
use Rattle.std.proofs.Common.{sym, subst, append-nil, inl, inr}
use Rattle.kr_model.specs.declared.Event.{Event}
use Rattle.kr_model.specs.declared.Reply.{Reply}
use Rattle.kr_model.specs.Map.{Map}
use Rattle.kr_model.specs.Locks.{Locks}
use Rattle.kr_model.specs.State.{State, start}
use Rattle.kr_model.specs.Run.{Entry, committed, programs}
use Rattle.kr_model.specs.Log.{Log, no_log, logged, log_after}
use Rattle.kr_model.proofs.LogReads.{append_entry}
use Rattle.kr_model.proofs.KindsOfSteps.{Kind}
use Rattle.kr_model.proofs.ProgramLaws.{ended_stay}
use Rattle.kr_model.proofs.LogSteps.{IsLog, log_silent, log_granted, log_end, log_back}
use Rattle.kr_ghost.specs.declared.moves.Move.{Move}
use Rattle.kr_ghost.specs.declared.moves.Move.TheVariants.{Attempt, Purge}
use Rattle.kr_ghost.specs.Protocol.{GhostProtocol}
use Rattle.kr_ghost.specs.State.{GhostState, opened}
use Rattle.kr_ghost.specs.Step.{step, may_purge, without_ghost, purged}
use Rattle.kr_ghost.specs.Run.{run}
use Rattle.kr_ghost_run.proofs.StepKinds.{kind_of}

-- A step of each kind keeps it.
kind_keeps : (h : List Entry) (s : State) (l : Log) (e : Event) (a : Reply) (new : State) → Kind s e.txn e.op a new → IsLog h s l → IsLog (h ++ (e, a) ∷ []) new (logged l (e, a))
kind_keeps h s l e a new (inl g) k = subst (λ z. IsLog (h ++ (e, a) ∷ []) z (logged l (e, a))) (sym g.0) (log_silent h s l e.txn e.op a g.1 k)
kind_keeps h s l e a new (inr (inl g)) k = log_granted h s l e.txn e.op a new g k
kind_keeps h s l e a new (inr (inr (inl g))) k = log_end h s l e.txn e.op a new g k
kind_keeps h s l e a new (inr (inr (inr g))) k = log_back h s l e.txn e.op a new g k

-- It doesn't depend on the locks.
relocked : (h : List Entry) (s : State) (l : Log) (locks : Locks) → IsLog h s l → IsLog h (record { map = s.map; locks = locks; ended = s.ended; active = s.active }) l
relocked h s l locks k = record {
  in_order = k.in_order;
  log_in_order = k.log_in_order;
  same = k.same;
  works = k.works;
  reads = k.reads;
  forward = k.forward;
  rolled = k.rolled;
  ended = ended_stay s (record { map = s.map; locks = locks; ended = s.ended; active = s.active }) (committed h) (λ u e. e) k.ended;
  committed = k.committed;
}

-- So a purge keeps it.
purge_keeps : (p : GhostProtocol) (s : GhostState) (k : ℕ) (h : List Entry) (l : Log) → IsLog h s.state l → IsLog h (purged p s k).state l
purge_keeps p s k h l is = by (may_purge p s k)
  where
    by : (b : Bool) → IsLog h (if b then without_ghost p s k else s).state l
    by true = relocked h s.state l (without_ghost p s k).state.locks is
    by false = is

log_runs : (p : GhostProtocol) (moves : List Move) (h : List Entry) (s : GhostState) (l : Log) → IsLog h s.state l
    → let r = run p s moves in let last = r.last in IsLog (h ++ r.history) last.state (log_after l r.history)
log_runs p [] h s l k = subst (λ z. IsLog z s.state l) (sym (append-nil h)) k
log_runs p (Attempt e ∷ moves) h s l k =
    let o = step p s e.txn e.op in
    let rest = run p o.1 moves in
    subst (λ z. IsLog z (run p (step p s e.txn e.op).1 moves).last.state (log_after (logged l (e, (step p s e.txn e.op).0)) (run p (step p s e.txn e.op).1 moves).history)) (append_entry h (e, o.0) rest.history)
    (log_runs p moves (h ++ (e, o.0) ∷ []) o.1 (logged l (e, o.0)) (kind_keeps h s.state l e o.0 o.1.state (kind_of p s e.txn e.op) k))
log_runs p (Purge k ∷ moves) h s l is = log_runs p moves h (purged p s k) l (purge_keeps p s k h l is)

log_at_start : (opening : Map) → IsLog [] (start opening) no_log
log_at_start opening = record {
  in_order = refl;
  log_in_order = refl;
  same = λ t. refl;
  works = λ t e. refl;
  reads = λ t e r. λ f. refl;
  forward = λ t. tt;
  rolled = λ t e r. absurd (cc);
  ended = tt;
  committed = refl;
}

-- The committed programs of a log that went along with a run are those of the run.
pub programs_of_run : (p : GhostProtocol) (opening : Map) (moves : List Move) → let r = run p (opened opening) moves in let log = log_after no_log r.history in log.committed ≡ programs r.history
programs_of_run p opening moves = let k = log_runs p moves [] (opened opening) no_log (log_at_start opening) in k.committed
