-- Which steps of a script a run in several threads does.
use Rattle.std.specs.Prelude.{◌≡◌, ◌==◌, ◌-◌, ◌&&◌, ◌||◌, nat_lt, ℕ, suc, Bool, true, false, not, List, [], ◌∷◌, ◌++◌, Option, Some, None, All, AllPairs, slice_get, if◌then◌else◌}
use Rattle.std.specs.List.{list_any}
use Rattle.kr_model.specs.declared.Event.{Event}
use Rattle.kr_model.specs.declared.Op.{Op}
use Rattle.kr_model.specs.declared.Op.TheVariants.{Abort}
use Rattle.kr_model.specs.Step.{is_end}
use Rattle.kr_script.specs.declared.not_done.WhyNotDone.{WhyNotDone}
use Rattle.kr_script.specs.declared.not_done.WhyNotDone.TheVariants.{Deadlock, Refused}
use Rattle.kr_script.specs.declared.not_done.StepFault.{StepFault}

-- Scripts --

-- The operations of a transaction, in order.
abbrev pub ops_of : ℕ → List Event → List Op
ops_of t [] = []
ops_of t (e ∷ es) = if e.txn == t then e.op ∷ ops_of t es else ops_of t es

-- The operation at a number, from 1.
abbrev pub op_at : ℕ → List Op → Option Op
op_at n os = if n == 0 then None else slice_get os (n - 1)

-- Faults --

-- Whether the fault is of this step of this transaction.
abbrev pub is_of : ℕ → ℕ → StepFault → Bool
is_of t n f = (f.txn == t) && (f.step == n)

-- Whether it is a deadlock.
abbrev pub is_deadlock : WhyNotDone → Bool
is_deadlock (Deadlock cycle) = true
is_deadlock (Refused r) = false

-- Whether this step of this transaction has a fault.
abbrev pub is_missed : List StepFault → ℕ → ℕ → Bool
is_missed faults t n = list_any (is_of t n) faults

-- Whether it met a deadlock.
abbrev pub is_stuck : List StepFault → ℕ → ℕ → Bool
is_stuck faults t n = list_any (λ f. is_of t n f && is_deadlock f.cause) faults

-- Whether the fault comes before this step of this transaction: by transaction, and then by number.
abbrev pub is_before : ℕ → ℕ → StepFault → Bool
is_before t n f = nat_lt f.txn t || ((f.txn == t) && nat_lt f.step n)

-- Each fault comes before all later ones.
abbrev pub AreRising : List StepFault → Type 0
AreRising faults = AllPairs (λ f g. is_before g.txn g.step f ≡ true) faults

-- What is done --

-- Of a transaction's operations, numbered from n, those that are done: all before the first that met a deadlock, without those that have a fault.
abbrev pub done_from : List StepFault → ℕ → ℕ → List Op → List Op
done_from faults t n [] = []
done_from faults t n (o ∷ os) =
    if is_stuck faults t n then []
    else if is_missed faults t n then done_from faults t (suc n) os
    else o ∷ done_from faults t (suc n) os

-- Whether a transaction that has done these is active: it did something, and its last operation isn't its end.
abbrev pub stays_active : List Op → Bool
stays_active [] = false
stays_active (o ∷ []) = not (is_end o)
stays_active (o ∷ p ∷ os) = stays_active (p ∷ os)

-- These, and an abort where the transaction stays active.
abbrev pub closed : List Op → List Op
closed os = if stays_active os then os ++ Abort ∷ [] else os

-- The events follow the steps with these faults: each transaction does its own steps in order, without those that have a fault, up to its first deadlock, and aborts in the end where it is still active; each fault's operation is the one at its number of its transaction's own steps; and the faults rise by transaction, and then by number.
pub record Follows (steps : List Event) (faults : List StepFault) (events : List Event) : Type 0 where
  pub done : (t : ℕ) → ops_of t events ≡ closed (done_from faults t 1 (ops_of t steps))
  pub asked : All (λ f. op_at f.step (ops_of f.txn steps) ≡ Some f.op) faults
  pub rising : AreRising faults
