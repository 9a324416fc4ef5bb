-- Where in a history a step was left out.
use Rattle.std.specs.Prelude.{◌≡◌, ◌≢◌, ◌-◌, ◌<◌, ◌≤◌, ◌+◌, ℕ, List, Option, Some, None, length, take, slice_index_or}
use Rattle.std.specs.HashMap.{HashMap}
use Rattle.kr_model.specs.declared.Event.{Event}
use Rattle.kr_model.specs.Run as model
use Rattle.kr_workers.specs.Dealt.{txn_at}
use Rattle.kr_workers.specs.Counts.{done_by, count_in}
use Rattle.kr_workers.specs.declared.left_out.LeftOut.{LeftOut}

-- Places --

-- The entries reach past this place, if there is one.
abbrev pub IsPast : List model.Entry → Option ℕ → Type 0
IsPast es None = Unit {0}
IsPast es (Some k) = k < length es

-- The entries end at this place at the latest, if there is one.
abbrev pub IsUpTo : List model.Entry → Option ℕ → Type 0
IsUpTo es None = Unit {0}
IsUpTo es (Some k) = length es ≤ k

-- Tests --

-- From the first of these places on up to the other, all numbers of the list are the same, and the one before them is another.
pub record IsStart (txns : List ℕ) (i first : ℕ) : Type 0 where
  pub within : first ≤ i
  pub same : (k : ℕ) → first ≤ k → k ≤ i → slice_index_or txns k 0 ≡ slice_index_or txns i 0
  pub other : 0 < first → slice_index_or txns (first - 1) 0 ≢ slice_index_or txns i 0

-- Each event's number is how many of the events up to it are of its transaction.
pub record AreNumbers (numbers : List ℕ) (es : List Event) : Type 0 where
  pub each : (k : ℕ) → k < length numbers → slice_index_or numbers k 0 ≡ done_by (txn_at es k) (take (k + 1) es)

-- The map has how many of the events are of each transaction.
abbrev pub AreCounts : {S : Type 0} → HashMap ℕ ℕ S → List Event → Type 0
AreCounts counts es = (t : ℕ) → count_in counts t ≡ done_by t es

-- The event at this place is the transaction's, and of this number among its own, from 1.
pub record IsNumber (es : List Event) (k t number : ℕ) : Type 0 where
  pub within : k < length es
  pub own : txn_at es k ≡ t
  pub is : done_by t (take (k + 1) es) ≡ number

-- Up to this place, where the event is the transaction's, just so many are of it; none where there is no place.
abbrev pub AreDoneUpTo : List Event → Option ℕ → ℕ → ℕ → Type 0
AreDoneUpTo es None t number = number ≡ 0
AreDoneUpTo es (Some k) t number = IsNumber es k t number

-- Before this place, where the event is the transaction's, just so many are of it; of all events where there is no place.
abbrev pub AreDoneBefore : List Event → Option ℕ → ℕ → ℕ → Type 0
AreDoneBefore es None t number = done_by t es ≡ number
AreDoneBefore es (Some k) t number = IsNumber es k t (number + 1)

-- Between the places of a step that was left out, its transaction had done all earlier steps but so many.
pub record IsBetween (es : List Event) (earlier : ℕ) (l : LeftOut) : Type 0 where
  pub number : ℕ
  pub is : number + earlier + 1 ≡ l.fault.step
  pub up_to : AreDoneUpTo es l.last l.fault.txn number
  pub before : AreDoneBefore es l.next l.fault.txn number
