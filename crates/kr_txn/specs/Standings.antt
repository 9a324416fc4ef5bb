-- Active transactions as the definitions see them.
use Rattle.std.specs.Prelude.{ℕ, List, reverse}
use Rattle.std.specs.Option.{option_map}
use Rattle.kr_model.specs.State as state
use Rattle.kr_txn.specs.declared.Scan.{Scan}
use Rattle.kr_txn.specs.declared.Standing.{Standing}
use Rattle.kr_txn.specs.Numbered as numbered

-- A scan in progress, as the definitions see it.
abbrev pub scan_of : Scan → state.Scan
scan_of s = record { lo = s.lo; hi = s.hi; rows = s.rows.items }

-- How an active transaction stands: its changes newest first.
abbrev pub active_of : Standing → state.Active
active_of s = record { scan = option_map scan_of s.scan; changes = reverse s.changes.items; rolling = s.rolling }

-- The number of an active transaction.
abbrev pub number_of : Standing → ℕ
number_of s = s.txn

-- The active transactions of a list, in its order: the number of each, and how it stands.
abbrev pub entries : List Standing → List (ℕ × state.Active)
entries xs = numbered.entries number_of active_of xs

-- The numbers rise, so each transaction stands in the list once.
abbrev pub IsInOrder : List Standing → Type 0
IsInOrder xs = numbered.AreInOrder (entries xs)
