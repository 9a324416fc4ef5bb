-- Three tables whose deletes leave ghosts; their names, modes and rows are this project's own.
use Rattle.std.specs.Prelude.{ℕ, ◌+◌, Bool, ◌&&◌, ◌||◌, not, ◌==◌, [], ◌∷◌, true, Option, None, if◌then◌else◌, slice_index_or}
use Rattle.kr_model.specs.declared.Row.{Row}
use Rattle.kr_model.specs.declared.Row.TheVariants.{FetchHit, FetchMiss, ScanKey, ScanStop, Insert, Delete, Update}
use Rattle.kr_model.specs.declared.Side.{Side}
use Rattle.kr_model.specs.declared.Side.TheVariants.{Current, Next}
use Rattle.kr_model.specs.declared.Span.{Span}
use Rattle.kr_model.specs.Matrices.{ok_by, convert_by, for_commit, at_once}
use Rattle.kr_model.specs.RangeKey.{range_key_ok, range_key_convert, has_read_range, N-S, S-S, I-N, X-X}
use Rattle.kr_ghost.specs.Protocol.{GhostProtocol, Unlocked, Inherit}

-- Locks on records and on gaps, which a purge leaves to the next name as locks on its gap --

-- The modes are N-S, N-X, G-N, G-S, G-X, I-N, I-S, I-X, GI-N, GI-S and GI-X, from 1: the part for the gap below the key first, then that for the key.

-- The part for the gap is 0 for none (N), 1 for gap (G), 2 for insert (I) and 3 for both; that for the key 0 for none, 1 for shared (S) and 2 for exclusive (X).
abbrev pub gap_part : ℕ → ℕ
gap_part m = slice_index_or (0 ∷ 0 ∷ 0 ∷ 1 ∷ 1 ∷ 1 ∷ 2 ∷ 2 ∷ 2 ∷ 3 ∷ 3 ∷ 3 ∷ []) m 0

abbrev pub record_part : ℕ → ℕ
record_part m = slice_index_or (0 ∷ 1 ∷ 2 ∷ 0 ∷ 1 ∷ 2 ∷ 0 ∷ 1 ∷ 2 ∷ 0 ∷ 1 ∷ 2 ∷ []) m 0

abbrev pub locks_gap : ℕ → Bool
locks_gap m = gap_part m == 1 || gap_part m == 3

abbrev pub inserts : ℕ → Bool
inserts m = gap_part m == 2 || gap_part m == 3

-- An insert isn't compatible with a lock on the gap, and on the key only shared locks are compatible.
abbrev pub record_gap_ok : ℕ → ℕ → Bool
record_gap_ok q h = not (inserts q && locks_gap h) && (record_part q == 0 || record_part h == 0 || (record_part q == 1 && record_part h == 1))

-- Conversion goes part by part: a gap and an insert to both, and shared and exclusive to exclusive.
abbrev pub record_gap_convert : ℕ → ℕ → ℕ
record_gap_convert h q =
    (if locks_gap h || locks_gap q then 3 else 0) + (if inserts h || inserts q then 6 else 0)
    + (if record_part h == 2 || record_part q == 2 then 2 else if record_part h == 1 || record_part q == 1 then 1 else 0)

-- The key exclusive and no lock on the gap; the gap alone; the gap and the key shared; the gap and the key exclusive.
abbrev pub N-X : ℕ
N-X = 2

abbrev pub G-N : ℕ
G-N = 3

abbrev pub G-S : ℕ
G-S = 4

abbrev pub G-X : ℕ
G-X = 5

-- A new key below a name on which its transaction locks the gap is locked with its gap.
abbrev pub record_gap_ask : Row → Side → ℕ → Option (ℕ × Span)
record_gap_ask FetchHit Current own = for_commit N-S
record_gap_ask FetchMiss Next own = for_commit G-N
record_gap_ask ScanKey Current own = for_commit G-S
record_gap_ask ScanStop Next own = for_commit G-S
record_gap_ask Insert Current own = if locks_gap own then for_commit G-X else for_commit N-X
record_gap_ask Insert Next own = at_once I-N
record_gap_ask Delete Current own = for_commit N-X
record_gap_ask Update Current own = for_commit N-X
record_gap_ask FetchHit Next own = None
record_gap_ask FetchMiss Current own = None
record_gap_ask ScanKey Next own = None
record_gap_ask ScanStop Current own = None
record_gap_ask Delete Next own = None
record_gap_ask Update Next own = None

-- Every lock on a ghost becomes a lock on the gap below the next name.
abbrev pub to_gap : ℕ → ℕ
to_gap m = if m == 0 then 0 else G-N

abbrev pub record_gap : GhostProtocol
record_gap = record {
  table = record { count = 11; ok = record_gap_ok; convert = record_gap_convert; ask = record_gap_ask; updates = true };
  revive = for_commit N-X;
  revive_next = None;
  vain = λ v. None;
  insert_hit_next = None;
  purges = Inherit to_gap;
}

-- Locks on ranges, under which a ghost isn't purged --

-- The modes, their compatibility and their conversion are those of range-key locking.
abbrev pub range_ghost_ask : Row → Side → ℕ → Option (ℕ × Span)
range_ghost_ask FetchHit Current own = for_commit N-S
range_ghost_ask FetchMiss Next own = for_commit S-S
range_ghost_ask ScanKey Current own = for_commit S-S
range_ghost_ask ScanStop Next own = for_commit S-S
range_ghost_ask Insert Current own = if has_read_range own then for_commit X-X else for_commit N-X
range_ghost_ask Insert Next own = at_once I-N
range_ghost_ask Delete Current own = for_commit N-X
range_ghost_ask Update Current own = for_commit N-X
range_ghost_ask FetchHit Next own = None
range_ghost_ask FetchMiss Current own = None
range_ghost_ask ScanKey Next own = None
range_ghost_ask ScanStop Current own = None
range_ghost_ask Delete Next own = None
range_ghost_ask Update Next own = None

abbrev pub range_ghost : GhostProtocol
range_ghost = record {
  table = record { count = 11; ok = range_key_ok; convert = range_key_convert; ask = range_ghost_ask; updates = true };
  revive = for_commit N-X;
  revive_next = None;
  vain = λ v. None;
  insert_hit_next = None;
  purges = Unlocked;
}

-- Locks on keys and next keys, under which a ghost isn't purged --

-- A shared lock on a key, a shared lock on a key and the gap below it, an insert into the gap, an insert of the key, and exclusive.
abbrev pub KS : ℕ
KS = 1

abbrev pub NS : ℕ
NS = 2

abbrev pub NW : ℕ
NW = 3

abbrev pub KW : ℕ
KW = 4

abbrev pub KX : ℕ
KX = 5

abbrev pub next_key_ok : ℕ → ℕ → Bool
next_key_ok = ok_by ((KS ∷ NS ∷ NW ∷ []) ∷ (KS ∷ NS ∷ []) ∷ (KS ∷ NW ∷ KW ∷ []) ∷ (NW ∷ []) ∷ [] ∷ [])

abbrev pub next_key_convert : ℕ → ℕ → ℕ
next_key_convert = convert_by ((KS ∷ NS ∷ KX ∷ KX ∷ KX ∷ []) ∷ (NS ∷ NS ∷ KX ∷ KX ∷ KX ∷ []) ∷ (KX ∷ KX ∷ NW ∷ KW ∷ KX ∷ []) ∷ (KX ∷ KX ∷ KW ∷ KW ∷ KX ∷ []) ∷ (KX ∷ KX ∷ KX ∷ KX ∷ KX ∷ []) ∷ [])

abbrev pub next_key_ask : Row → Side → ℕ → Option (ℕ × Span)
next_key_ask FetchHit Current own = for_commit KS
next_key_ask FetchMiss Next own = for_commit NS
next_key_ask ScanKey Current own = for_commit NS
next_key_ask ScanStop Next own = for_commit NS
next_key_ask Insert Current own = if own == NS || own == KX then for_commit KX else for_commit KW
next_key_ask Insert Next own = at_once NW
next_key_ask Delete Current own = for_commit KX
next_key_ask Update Current own = for_commit KX
next_key_ask FetchHit Next own = None
next_key_ask FetchMiss Current own = None
next_key_ask ScanKey Next own = None
next_key_ask ScanStop Current own = None
next_key_ask Delete Next own = None
next_key_ask Update Next own = None

abbrev pub next_key_ghost : GhostProtocol
next_key_ghost = record {
  table = record { count = 5; ok = next_key_ok; convert = next_key_convert; ask = next_key_ask; updates = true };
  revive = for_commit KX;
  revive_next = None;
  vain = λ v. None;
  insert_hit_next = None;
  purges = Unlocked;
}
