-- Worked examples of what it is to be safe: tables that fail cases and are safe, and tables that aren't safe.
use Rattle.std.specs.Prelude.{ℕ, ◌&&◌, ◌||◌, ◌==◌, ◌∷◌, [], Option, None}
use Rattle.kr_model.specs.declared.Row.{Row}
use Rattle.kr_model.specs.declared.Row.TheVariants.{FetchMiss}
use Rattle.kr_model.specs.declared.Side.{Side}
use Rattle.kr_model.specs.declared.Side.TheVariants.{Next}
use Rattle.kr_model.specs.declared.Span.{Span}
use Rattle.kr_model.specs.Protocol.{Protocol, IsLawful}
use Rattle.kr_model.specs.Covers.{IsCovered}
use Rattle.kr_model.specs.Safe.{IsSafe}
use Rattle.kr_model.specs.Matrices.{convert_by, at_once}
use Rattle.kr_model.specs.Kvl.{kvl, kvl_ask, IS, IX, S, SIX, X}
use Rattle.kr_model.specs.RangeKey.{range_key, S-N, I-X}

-- A lawful table that fails cases and is safe.
abbrev pub IsSafeUncovered : Protocol → Type 0
IsSafeUncovered p = IsLawful p × (IsCovered p → ⊥) × IsSafe p

-- A lawful table that isn't safe.
abbrev pub IsUnsafe : Protocol → Type 0
IsUnsafe p = IsLawful p × (IsSafe p → ⊥)

-- Safe --

-- Key-value locking in which SIX and IX convert to IS. A transaction that holds SIX on a name requests IX there only for an instant, when it inserts a key below, and keeps SIX. Nobody else has a lock on that name that protects anything, so it doesn't matter that IS conflicts with less.
abbrev pub six_to_is : Protocol
six_to_is = record kvl {
  convert = convert_by ((IS ∷ IX ∷ S ∷ SIX ∷ X ∷ []) ∷ (IX ∷ IX ∷ SIX ∷ SIX ∷ X ∷ []) ∷ (S ∷ SIX ∷ S ∷ SIX ∷ X ∷ []) ∷ (SIX ∷ IS ∷ SIX ∷ SIX ∷ X ∷ []) ∷ (X ∷ X ∷ X ∷ X ∷ X ∷ []) ∷ []);
}

-- Key-value locking in which SIX is granted beside IX. A transaction comes to request SIX on a key beside another's IX only where both have inserted the key, and the other has rolled back its insert: its lock protects nothing any more.
abbrev pub six_beside_ix : Protocol
six_beside_ix = record kvl { ok = λ q h. (q == SIX && h == IX) || kvl.ok q h }

-- Range-key locking in which I-X is granted beside S-N. I-X is requested on a key by the transaction that inserts or has inserted it, and nobody else has read the gap below that key: before the insert the key was absent, and after it the lock conflicts with the read.
abbrev pub insert_beside_read : Protocol
insert_beside_read = record range_key { ok = λ q h. (q == I-X && h == S-N) || range_key.ok q h }

-- Not safe --

-- A table that requests nothing. A key that one transaction has read, another deletes.
abbrev pub requests_nothing : Protocol
requests_nothing = record kvl { ask = λ row side own. None }

-- What key-value locking requests, but a fetch that finds nothing doesn't keep its lock on the gap.
abbrev pub miss_at_once_ask : Row → Side → ℕ → Option (ℕ × Span)
miss_at_once_ask FetchMiss Next own = at_once S
miss_at_once_ask r s own = kvl_ask r s own

-- Key-value locking with these requests. Into the gap that one transaction has read, another inserts.
abbrev pub miss_at_once : Protocol
miss_at_once = record kvl { ask = miss_at_once_ask }
