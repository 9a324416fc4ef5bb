-- What is told of the steps that weren't done.
use Rattle.std.specs.Prelude.{◌≡◌, ◌==◌, ◌≤◌, ◌+◌, ℕ, Bool, false, true, List, ◌∷◌, All, map, if◌then◌else◌}
use Rattle.std.specs.List.{count_by}
use mathlib.Core.List.{IsPrefix}
use Rattle.kr_model.specs.declared.Event.{Event}
use Rattle.kr_model.specs.declared.Op.{Op}
use Rattle.kr_model.specs.Map.{Map}
use Rattle.kr_model.specs.Run.{is_granted}
use Rattle.kr_model.specs.Step.{blockers_in}
use Rattle.kr_deadlock.specs.declared.Waiting.{Waiting}
use Rattle.kr_deadlock.specs.Waits.{IsCycle}
use Rattle.kr_script.specs.declared.not_done.WhyNotDone.{WhyNotDone}
use Rattle.kr_script.specs.declared.not_done.WhyNotDone.TheVariants.{Deadlock, Refused}
use Rattle.kr_script.specs.declared.not_done.StepFault.{StepFault}
use Rattle.kr_workers.specs.Waits.{blockers_now, event, is_blocked_reply}
use Rattle.kr_workers.specs.Counts.{done_by, missed_before}
use Rattle.kr_ghost.specs.Protocol.{GhostProtocol}
use Rattle.kr_ghost.specs.State.{GhostState}
use Rattle.kr_ghost.specs.Step.{step}
use Rattle.kr_ghost_machine.specs.Machine.{GhostSteps}
use Rattle.kr_ghost_threads.specs.declared.made.Made.{Made}
use Rattle.kr_ghost_threads.specs.Histories.{IsHistory, is_done, steps_of}

-- Who blocks this operation now.
abbrev pub in_the_way : GhostProtocol → GhostState → Event → List ℕ
in_the_way p s e = blockers_in (step p s e.txn e.op).0

-- A refusal's reply is the definition's to t's operation in this state, and is neither granted nor blocked: a step that is blocked waits. A deadlock's transactions are a cycle from t: each has an operation that the next blocks in this state, the last's blocked by t, whose own is this one.
abbrev pub IsCause : GhostProtocol → GhostState → ℕ → Op → WhyNotDone → Type 0
IsCause p s t o (Refused r) = (r ≡ (step p s t o).0) × ((is_granted r ≡ false) × (is_blocked_reply r ≡ false))
IsCause p s t o (Deadlock cycle) = (waiting : List Event) × IsCycle (blockers_now (in_the_way p s) (event t o ∷ waiting)) t cycle

-- The fault's cause is so at the end of a prefix of the history, which is a run from the opening map. In it stands each earlier step of the fault's transaction that has no fault of its own, and none that comes later.
pub record IsTold (p : GhostProtocol) (opening : Map) (faults : List StepFault) (history : List Made) (f : StepFault) : Type 0 where
  pub before : List Made
  pub state : GhostState
  pub begins : IsPrefix before history
  pub run : IsHistory p opening before state
  pub cause : IsCause p state f.txn f.op f.cause
  pub placed : done_by f.txn (steps_of before) + missed_before faults f.txn f.step + 1 ≡ f.step

-- What lies under the lock --

-- What contracts see of it: its machine, and whether memory was refused.
pub record Kept (P : Type 0) : Type 0 where
  pub steps : GhostSteps P
  pub failed : Bool

-- An entry of the search for a deadlock: a transaction, and those that block it.
abbrev pub entry_of : Waiting → ℕ × List ℕ
entry_of w = (w.txn, w.blockers.items)

-- The entry of an operation now.
abbrev pub asked_of : (Event → List ℕ) → Event → ℕ × List ℕ
asked_of f e = (e.txn, f e)

-- The entries of the search for a deadlock are of operations, each with those that block it now.
pub record AreWaiting (p : GhostProtocol) (s : GhostState) (waits : List Waiting) : Type 0 where
  pub ops : List Event
  pub each : map entry_of waits ≡ map (asked_of (in_the_way p s)) ops

-- How many of the faults are of this transaction.
abbrev pub missed_by : ℕ → List StepFault → ℕ
missed_by t faults = count_by (λ f. f.txn == t) faults

-- How many steps this transaction has come to: those that were done, and those that were left out.
abbrev pub come_to : List Made → List StepFault → ℕ → ℕ
come_to h faults t = done_by t (steps_of h) + missed_by t faults

-- One more of this transaction is counted, and none of another.
abbrev pub CountsOne : ℕ → (ℕ → ℕ) → (ℕ → ℕ) → Type 0
CountsOne t old new = (u : ℕ) → new u ≡ old u + (if u == t then 1 else 0)

-- The protocol is p. The history is a run from the opening map, of moves that were done, and ends in the machine's state. Each fault was told at the end of a prefix of it, and is of a step to which its transaction has come; how many each has come to is counted.
pub record IsKernel (p : GhostProtocol) (opening : Map) (own : GhostProtocol) (s : GhostState) (h : List Made) (faults : List StepFault) (counts : ℕ → ℕ) (waits : List Waiting) : Type 0 where
  pub protocol : own ≡ p
  pub history : IsHistory p opening h s
  pub done : All (λ m. is_done m.answer ≡ true) h
  pub told : All (IsTold p opening faults h) faults
  pub come : All (λ f. f.step ≤ come_to h faults f.txn) faults
  pub counted : (t : ℕ) → counts t ≡ come_to h faults t
  pub waiting : AreWaiting p s waits
