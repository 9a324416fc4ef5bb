-- Runs, and the programs of the transactions that committed.
use Rattle.std.specs.Prelude.{◌≡◌, ℕ, Bool, true, false, ◌&&◌, ◌==◌, List, [], ◌∷◌, Some, None, map, if◌then◌else◌}
use Rattle.std.specs.List.{filter_map}
use Rattle.kr_model.specs.declared.Op.{Op}
use Rattle.kr_model.specs.declared.Op.TheVariants as op
use Rattle.kr_model.specs.declared.Event.{Event}
use Rattle.kr_model.specs.declared.Program as declared
use Rattle.kr_model.specs.declared.Reply.{Reply}
use Rattle.kr_model.specs.declared.Reply.TheVariants as reply
use Rattle.kr_model.specs.declared.Refusal.TheVariants as refusal
use Rattle.kr_model.specs.Protocol.{Protocol}
use Rattle.kr_model.specs.Map.{Map}
use Rattle.kr_model.specs.State.{State, start}
use Rattle.kr_model.specs.Step.{step, IsStep}

-- An event with its reply.
abbrev pub Entry : Type 0
Entry = Event × Reply

-- The events with their replies, in order, and the state after the last.
pub record Trace : Type 0 where
  pub history : List Entry
  pub state : State

-- The events attempted one after another from s, where memory is ample.
abbrev pub run : Protocol → State → List Event → Trace
run p s [] = record { history = []; state = s }
run p s (e ∷ es) =
    let o = step p s e.txn e.op in
    let rest = run p o.1 es in
    record { history = (e, o.0) ∷ rest.history; state = rest.state }

-- The events of a history.
abbrev pub events_of : List Entry → List Event
events_of h = map (λ e. e.0) h

-- The replies of a history.
abbrev pub replies_of : List Entry → List Reply
replies_of h = map (λ e. e.1) h

-- The history is a run from the opening map, and ends in the state.
abbrev pub IsRun : Protocol → Map → List Entry → State → Type 0
IsRun p opening h s = run p (start opening) (events_of h) ≡ record { history = h; state = s }

-- The history leads from s to the new state by steps, of which any may have been refused memory.
abbrev pub AreSteps : Protocol → State → List Entry → State → Type 0
AreSteps p s [] new = new ≡ s
AreSteps p s ((e, r) ∷ rest) new = (mid : State) × (IsStep p s e.txn e.op r mid × AreSteps p mid rest new)

-- Memory sufficed: no step of the history was refused it.
abbrev pub HadMemory : List Entry → Type 0
HadMemory [] = Unit {0}
HadMemory ((e, r) ∷ rest) = (r ≡ reply.Refused refusal.Memory → ⊥) × HadMemory rest

-- Committed programs, read from events and replies alone --

-- An operation with its answer.
abbrev pub Answered : Type 0
Answered = Op × Reply

-- What a transaction did: its number, and its operations in order, with their answers.
abbrev pub Program : Type 0
Program = declared.Program

-- Whether an event is an operation of its transaction's program: a commit ends the program, and going on with a scan is part of the scan.
abbrev pub is_operation : Op → Bool
is_operation op.Go = false
is_operation op.Commit = false
is_operation _ = true

-- Whether a reply is neither blocked nor refused.
abbrev pub is_granted : Reply → Bool
is_granted (reply.Blocked us) = false
is_granted (reply.Refused r) = false
is_granted _ = true

-- Whether a reply ends a scan.
abbrev pub is_rows : Reply → Bool
is_rows (reply.Rows rows) = true
is_rows _ = false

-- Whether a reply ends a transaction with its changes kept.
abbrev pub is_committed : Reply → Bool
is_committed reply.Committed = true
is_committed _ = false

-- The first rows that t is given, or r where it is given none.
abbrev pub first_rows : ℕ → Reply → List Entry → Reply
first_rows t r [] = r
first_rows t r ((e, a) ∷ rest) = if (e.txn == t) && is_rows a then a else first_rows t r rest

-- The answer of an operation, of which the entries after it are given: for a scan the rows that it ends with.
abbrev pub answer_of : ℕ → Op → Reply → List Entry → Reply
answer_of t (op.Scan lo hi) a rest = if is_rows a then a else first_rows t a rest
answer_of t _ a rest = a

-- The operations of t that were granted, with their answers.
abbrev pub operations_of : ℕ → List Entry → List Answered
operations_of t [] = []
operations_of t ((e, a) ∷ rest) =
    if (e.txn == t) && (is_operation e.op && is_granted a) then (e.op, answer_of t e.op a rest) ∷ operations_of t rest
    else operations_of t rest

-- The transactions that committed, in commit order.
abbrev pub committed : List Entry → List ℕ
committed es = filter_map (λ e. if is_committed e.1 then Some e.0.txn else None) es

-- The committed programs, in commit order.
abbrev pub programs : List Entry → List Program
programs es = map (λ t. record { txn = t; operations = operations_of t es }) (committed es)
