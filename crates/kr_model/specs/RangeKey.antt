-- Range-key locking: a mode has a part for the gap below the key and a part for the key, an idea of D. Lomet's (Key Range Locking Strategies, VLDB 1993); the modes, the matrices and the rows are this project's own.
use Rattle.std.specs.Prelude.{false, ℕ, ◌+◌, ◌*◌, Bool, ◌&&◌, ◌||◌, ◌==◌, [], ◌∷◌, Option, None, if◌then◌else◌, slice_index_or}
use Rattle.kr_model.specs.declared.Row.{Row}
use Rattle.kr_model.specs.declared.Row.TheVariants.{FetchHit, FetchMiss, ScanKey, ScanStop, Insert, Delete, Update}
use Rattle.kr_model.specs.declared.Side.{Side}
use Rattle.kr_model.specs.declared.Side.TheVariants.{Current, Next}
use Rattle.kr_model.specs.declared.Span.{Span}
use Rattle.kr_model.specs.Protocol.{Protocol}
use Rattle.kr_model.specs.Matrices.{for_commit, at_once}

-- The modes are N-S, N-X, S-N, S-S, S-X, I-N, I-S, I-X, X-N, X-S and X-X, from 1: range part first, key part second.

-- A part is 0 for none (N), 1 for shared (S), 2 for insert (I, of a range alone) and 3 for exclusive (X).
abbrev pub exclusive : ℕ
exclusive = 3

-- The part of a mode for the gap below the key.
abbrev pub range_part : ℕ → ℕ
range_part m = slice_index_or (0 ∷ 0 ∷ 0 ∷ 1 ∷ 1 ∷ 1 ∷ 2 ∷ 2 ∷ 2 ∷ 3 ∷ 3 ∷ 3 ∷ []) m 0

-- The part of a mode for the key.
abbrev pub key_part : ℕ → ℕ
key_part m = slice_index_or (0 ∷ 1 ∷ 3 ∷ 0 ∷ 1 ∷ 3 ∷ 0 ∷ 1 ∷ 3 ∷ 0 ∷ 1 ∷ 3 ∷ []) m 0

-- The mode with these parts.
abbrev pub mode_of : ℕ → ℕ → ℕ
mode_of range key = 3 * range + (if key == exclusive then 2 else key)

-- Parts are compatible where one of them is 0, or where both are shared or both insert.
abbrev pub parts_ok : ℕ → ℕ → Bool
parts_ok a b = a == 0 || b == 0 || (a == b && (a == 1 || a == 2))

-- No lock and a part convert to that part, two equal parts to that part, and any other two to exclusive.
abbrev pub part_after : ℕ → ℕ → ℕ
part_after a b = if a == 0 then b else if b == 0 then a else if a == b then a else exclusive

-- Two modes are compatible where both their parts are.
abbrev pub range_key_ok : ℕ → ℕ → Bool
range_key_ok q h = parts_ok (range_part q) (range_part h) && parts_ok (key_part q) (key_part h)

-- Conversion goes part by part.
abbrev pub range_key_convert : ℕ → ℕ → ℕ
range_key_convert h q = mode_of (part_after (range_part h) (range_part q)) (part_after (key_part h) (key_part q))

-- No lock on the gap, the key shared.
abbrev pub N-S : ℕ
N-S = 1

-- The gap shared, no lock on the key.
abbrev pub S-N : ℕ
S-N = 3

-- The gap and the key shared.
abbrev pub S-S : ℕ
S-S = 4

-- An insert into the gap, no lock on the key.
abbrev pub I-N : ℕ
I-N = 6

-- An insert into the gap, the key exclusive.
abbrev pub I-X : ℕ
I-X = 8

-- The gap exclusive, no lock on the key.
abbrev pub X-N : ℕ
X-N = 9

-- The gap and the key exclusive.
abbrev pub X-X : ℕ
X-X = 11

-- Whether a mode has its range part shared or exclusive.
abbrev pub has_read_range : ℕ → Bool
has_read_range m = range_part m == 1 || range_part m == exclusive

-- What each row and side requests.
abbrev pub range_key_ask : Row → Side → ℕ → Option (ℕ × Span)
range_key_ask FetchHit Current own = for_commit N-S
range_key_ask FetchMiss Next own = for_commit S-N
range_key_ask ScanKey Current own = for_commit S-S
range_key_ask ScanStop Next own = for_commit S-N
range_key_ask Insert Current own = if has_read_range own then for_commit X-X else for_commit I-X
range_key_ask Insert Next own = at_once I-N
range_key_ask Delete Current own = at_once X-X
range_key_ask Delete Next own = for_commit X-N
range_key_ask FetchHit Next own = None
range_key_ask FetchMiss Current own = None
range_key_ask ScanKey Next own = None
range_key_ask ScanStop Current own = None
range_key_ask Update side own = None

-- The bundled table of range-key locking.
abbrev pub range_key : Protocol
range_key = record { count = 11; ok = range_key_ok; convert = range_key_convert; ask = range_key_ask; updates = false }
