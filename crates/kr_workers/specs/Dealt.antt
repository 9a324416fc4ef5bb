-- Operations by their transactions.
use Rattle.std.specs.Prelude.{◌≡◌, ◌≢◌, ◌↔◌, ◌==◌, ◌<◌, ◌≤◌, ◌-◌, All, AllPairs, Contains, length, ℕ, not, List, [], ◌∷◌, Option, Some, None, filter, map, take, drop, slice_index_or, if◌then◌else◌, option_map}
use Rattle.std.specs.BTreeMap.{BTreeMap, get}
use Rattle.std.specs.Global.{Vec}
use Rattle.std.specs.Ordering.{nat_cmp}
use Rattle.kr_model.specs.declared.Event.{Event}
use Rattle.kr_model.specs.declared.Op.{Op}
use Rattle.kr_model.specs.declared.Op.TheVariants.{Go}
use Rattle.kr_script.specs.declared.not_done.StepFault.{StepFault}
use Rattle.kr_workers.specs.Follows.{ops_of, op_at, done_from, closed}

-- The transactions that occur, each once, in order of first appearance.
abbrev pub firsts : List Event → List ℕ
firsts [] = []
firsts (e ∷ es) = e.txn ∷ filter (λ t. not (t == e.txn)) (firsts es)

-- Transactions, and operations by their transactions.
pub record Dealing : Type 0 where
  pub txns : List ℕ
  pub hands : List (ℕ × List Op)

-- The operations that stand with a transaction first, or none.
abbrev pub hand_of : ℕ → List (ℕ × List Op) → List Op
hand_of t [] = []
hand_of t (h ∷ hs) = if h.0 == t then h.1 else hand_of t hs

-- The operations of a transaction.
abbrev pub ops_in : Dealing → ℕ → List Op
ops_in d t = hand_of t d.hands

-- The events by their transactions: those that occur, each once, in order of first appearance, and the operations of each.
pub record AreDealt (events : List Event) (d : Dealing) : Type 0 where
  pub txns : d.txns ≡ firsts events
  pub occur : (t : ℕ) → Contains d.txns t ↔ (ops_of t events ≢ [])
  pub each_once : AllPairs (λ t u. t ≢ u) d.txns
  pub ops : (t : ℕ) → ops_in d t ≡ ops_of t events

-- In a map --

-- The transactions of a map, each with its operations.
abbrev pub hands_of : BTreeMap ℕ (Vec Op) → List (ℕ × List Op)
hands_of m = map (λ e. (e.0, e.1.items)) m.entries

-- The operations of a transaction that occurs.
abbrev pub some_ops : List Op → Option (List Op)
some_ops [] = None
some_ops (o ∷ os) = Some (o ∷ os)

-- The transactions in order of first appearance, and the map has the operations of each.
pub record AreHands (events : List Event) (txns : List ℕ) (hands : BTreeMap ℕ (Vec Op)) : Type 0 where
  pub firsts_are : txns ≡ firsts events
  pub each : (t : ℕ) → option_map (λ v. v.items) (get nat_cmp hands t) ≡ some_ops (ops_of t events)

-- Runs --

-- The events from one place up to another.
abbrev pub between : ℕ → ℕ → List Event → List Event
between start end events = drop start (take end events)

-- Whose event stands at a place; that of nobody past the last.
abbrev pub txn_at : List Event → ℕ → ℕ
txn_at events k = (slice_index_or events k (record { txn = 0; op = Go })).txn

-- From start to end stands at least one event, and each is of the transaction.
pub record IsRun (t start end : ℕ) (events : List Event) : Type 0 where
  pub begins : start < end
  pub within : end ≤ length events
  pub of_one : All (λ e. e.txn ≡ t) (between start end events)

-- What is to do --

-- The operations of a transaction in a map, or none.
abbrev pub hand_in : BTreeMap ℕ (Vec Op) → ℕ → List Op
hand_in hands t = hand_of t (hands_of hands)

-- Each of the transactions has what it is to do in place of its operations, and each other one what it had.
pub record AreWanted (faults : List StepFault) (txns : List ℕ) (before after : BTreeMap ℕ (Vec Op)) : Type 0 where
  pub own : All (λ t. hand_in after t ≡ closed (done_from faults t 1 (hand_in before t))) txns
  pub others : (t : ℕ) → (Contains txns t → ⊥) → hand_in after t ≡ hand_in before t

-- Whose event stands before a place; that of nobody before the first.
abbrev pub txn_before : List Event → ℕ → ℕ
txn_before events k = txn_at events (k - 1)

-- Tests --

-- The fault's operation is the one at its number of its transaction's own.
abbrev pub IsAsked : Dealing → StepFault → Type 0
IsAsked script f = op_at f.step (ops_in script f.txn) ≡ Some f.op
