-- The numbers of transactions that were begun.
use Rattle.std.specs.Prelude.{◌≡◌, ◌==◌, ◌&&◌, ℕ, nat_eq, suc, ◌<◌, Bool, not, List, [], ◌∷◌, Some, None, map, length, All, is_some, slice_index_or, if◌then◌else◌}
use Rattle.std.specs.List.{list_any}
use Rattle.std.specs.HashMap.{HashMap, get}
use Rattle.kr_model.specs.State.{State, has_ended}
use Rattle.kr_records.specs.declared.numbers.Number.{Number}

-- The numbers with their seats.
abbrev pub begun_by : List Number → List (ℕ × ℕ)
begun_by ns = map (λ n. (n.txn, n.seat)) ns

-- Whether the number was begun.
abbrev pub was_begun : List (ℕ × ℕ) → ℕ → Bool
was_begun numbers txn = list_any (λ n. n.0 == txn) numbers

-- Whether the number was begun by this seat.
abbrev pub is_begun : List (ℕ × ℕ) → ℕ → ℕ → Bool
is_begun numbers txn seat = list_any (λ n. (n.0 == txn) && (n.1 == seat)) numbers

-- How many have the memory of their end's entry still.
abbrev pub ends_kept : List Number → ℕ
ends_kept [] = 0
ends_kept (n ∷ ns) = if is_some n.end then suc (ends_kept ns) else ends_kept ns

-- A number that was never begun.
abbrev pub nobody : Number
nobody = record { txn = 0; seat = 0; end = None }

abbrev pub number_at : List Number → ℕ → Number
number_at ns k = slice_index_or ns k nobody

-- The number t stands at this place, and at no other.
pub record IsPlace (ns : List Number) (t place : ℕ) : Type 0 where
  pub within : place < length ns
  pub here : (number_at ns place).txn ≡ t
  pub only : (other : ℕ) → other < length ns → (number_at ns other).txn ≡ t → other ≡ place

-- The map has the place of each number, and nothing else.
pub record ArePlaces {S : Type 0} (places : HashMap ℕ ℕ S) (ns : List Number) : Type 0 where
  pub each : (i : ℕ) → i < length ns → get nat_eq places (number_at ns i).txn ≡ Some i
  pub true_of : (t i : ℕ) → get nat_eq places t ≡ Some i → (i < length ns) × ((number_at ns i).txn ≡ t)

-- No number stands at two places.
abbrev pub AreDistinct : List Number → Type 0
AreDistinct ns = (i j : ℕ) → i < length ns → j < length ns → (number_at ns i).txn ≡ (number_at ns j).txn → i ≡ j

-- Each number has the memory of its end's entry exactly where its transaction hasn't ended.
abbrev pub HaveEnds : State → List Number → Type 0
HaveEnds s ns = All (λ n. is_some n.end ≡ not (has_ended s n.txn)) ns
