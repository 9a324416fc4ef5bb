-- Who is in whose way.
use Rattle.std.specs.Prelude.{◌≡◌, ◌==◌, ℕ, Bool, true, false, All, List, [], ◌∷◌, ◌++◌, Option, Some, None, slice_get, nat_eq, if◌then◌else◌}
use Rattle.std.specs.List.{Contains, IsDistinct, list_any}
use Rattle.std.specs.List.Sorted.{IsStrictlyIncreasing}
use Rattle.kr_model.specs.declared.Event.{Event}
use Rattle.kr_model.specs.declared.Op.{Op}
use Rattle.kr_model.specs.Protocol.{Protocol}
use Rattle.kr_model.specs.State.{State}
use Rattle.kr_model.specs.Step.{step, blockers_in, WaitsFor}
use Rattle.kr_deadlock.specs.declared.Waiting.{Waiting}
use Rattle.kr_records.specs.Histories.{event}
use Rattle.kr_records.specs.declared.faults.EngineFault.{EngineFault}
use Rattle.kr_records.specs.declared.faults.EngineFault.TheVariants.{Deadlock}

-- Who blocks this operation now.
abbrev pub in_the_way : Protocol → State → Event → List ℕ
in_the_way p s e = blockers_in (step p s e.txn e.op).0

-- Who is in the way of t's operation, the first of t in this list; nobody where t has none.
abbrev pub blockers_now : (Event → List ℕ) → List Event → ℕ → List ℕ
blockers_now blockers [] t = []
blockers_now blockers (e ∷ es) t = if e.txn == t then blockers e else blockers_now blockers es t

-- The operation of t in this list, the first of t there, waits for u.
pub record Waits (p : Protocol) (s : State) (es : List Event) (t u : ℕ) : Type 0 where
  pub before : List Event
  pub op : Op
  pub after : List Event
  pub list : es ≡ before ++ event t op ∷ after
  pub first : list_any (λ e. e.txn == t) before ≡ false
  pub waits : WaitsFor p s t op u

-- t waits for the first of us, each of us for the next, and the last for `end`.
abbrev pub WaitOn : (ℕ → ℕ → Type 0) → ℕ → List ℕ → ℕ → Type 0
WaitOn Waiting t [] end = Waiting t end
WaitOn Waiting t (u ∷ us) end = Waiting t u × WaitOn Waiting u us end

-- Each waits for the next, the last for `end`.
abbrev pub WaitInTurn : (ℕ → ℕ → Type 0) → List ℕ → ℕ → Type 0
WaitInTurn Waiting [] end = ⊥
WaitInTurn Waiting (t ∷ ts) end = WaitOn Waiting t ts end

-- A deadlock of t: distinct transactions, t first, each of which waits for the next by its operation in this list, and the last for t.
pub record IsWaitCycle (p : Protocol) (s : State) (es : List Event) (t : ℕ) (cycle : List ℕ) : Type 0 where
  pub first : slice_get cycle 0 ≡ Some t
  pub distinct : IsDistinct nat_eq cycle
  pub waits : WaitInTurn (Waits p s es) cycle t

-- Each of these transactions is blocked by one of them.
abbrev pub AreDeadlocked : (ℕ → List ℕ) → List ℕ → Type 0
AreDeadlocked blockers txns = (t : ℕ) → Contains txns t → (u : ℕ) × Contains txns u × Contains (blockers t) u

-- Each of these transactions has an entry, with those that block it.
abbrev pub HaveEntries : (ℕ → List ℕ) → List ℕ → List Waiting → Type 0
HaveEntries blockers txns ws = (t : ℕ) → Contains txns t → (w : Waiting) × Contains ws w × (w.txn ≡ t) × (w.blockers.items ≡ blockers t)

-- Whether one of these blocks another.
abbrev pub is_blocked_in : List Waiting → Waiting → Bool
is_blocked_in ws w = list_any (λ u. list_any (λ v. v.txn == u) ws) w.blockers.items

-- Each of these is blocked by one of them.
abbrev pub AreHeld : List Waiting → Type 0
AreHeld ws = All (λ w. is_blocked_in ws w ≡ true) ws

-- A deadlock names a cycle of which this holds.
abbrev pub TellsCycle : EngineFault → (List ℕ → Type 0) → Type 0
TellsCycle (Deadlock cycle) Q = Q cycle
TellsCycle _ Q = Unit {0}

-- The entry of an operation in the search.
pub record IsEntry (blockers : Event → List ℕ) (e : Event) (w : Waiting) : Type 0 where
  pub txn : w.txn ≡ e.txn
  pub blockers_are : w.blockers.items ≡ blockers e

-- The operation o of this transaction is the last that is noted as waiting.
abbrev pub IsNoted : List Event → Option ℕ → Op → Type 0
IsNoted waiting None o = ⊥
IsNoted waiting (Some t) o = (before : List Event) × (waiting ≡ before ++ event t o ∷ [])

-- These are the transactions of the operations, rising: a transaction is among them exactly where one of the operations is of it.
pub record AreTxnsOf (txns : List ℕ) (es : List Event) : Type 0 where
  pub rising : IsStrictlyIncreasing txns
  pub each : (t : ℕ) → list_any (λ u. u == t) txns ≡ list_any (λ e. e.txn == t) es
