-- How many steps a transaction has come past.
use Rattle.std.specs.Prelude.{◌==◌, ◌&&◌, ℕ, nat_eq, nat_lt, List, unwrap_or}
use Rattle.std.specs.List.{count_by}
use Rattle.std.specs.HashMap.{HashMap, get}
use Rattle.kr_model.specs.declared.Event.{Event}
use Rattle.kr_script.specs.declared.not_done.StepFault.{StepFault}

-- How many of the events are of this transaction.
abbrev pub done_by : ℕ → List Event → ℕ
done_by t es = count_by (λ e. e.txn == t) es

-- How many of the faults are of steps of this transaction that come before this one.
abbrev pub missed_before : List StepFault → ℕ → ℕ → ℕ
missed_before faults t n = count_by (λ f. (f.txn == t) && nat_lt f.step n) faults

-- How many events a map has of a transaction.
abbrev pub count_in : {S : Type 0} → HashMap ℕ ℕ S → ℕ → ℕ
count_in counts t = unwrap_or (get nat_eq counts t) 0
