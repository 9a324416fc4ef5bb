-- A lawful table that isn't safe, and under which every run is serializable in commit order all the same: the condition fears a lock that no schedule reaches.
use Rattle.std.specs.Prelude.{ℕ, Bool, false, ◌&&◌, ◌||◌, ◌==◌, Option, None, if◌then◌else◌}
use Rattle.kr_model.specs.declared.Row.{Row}
use Rattle.kr_model.specs.declared.Row.TheVariants.{FetchHit, FetchMiss, ScanKey, ScanStop, Insert, Delete}
use Rattle.kr_model.specs.declared.Side.{Side}
use Rattle.kr_model.specs.declared.Side.TheVariants.{Current, Next}
use Rattle.kr_model.specs.declared.Span.{Span}
use Rattle.kr_model.specs.Protocol.{Protocol}
use Rattle.kr_model.specs.Matrices.{for_commit}

-- What an insert keeps on the next key, or on the end: its transaction has inserted into the gap below.
abbrev pub I : ℕ
I = 1

-- What an insert keeps on the key that it inserts.
abbrev pub K : ℕ
K = 2

-- What every other operation keeps, on the key that it reads or deletes, and on the next.
abbrev pub X : ℕ
X = 3

-- A weak lock: it conflicts with nothing, so it protects nothing. No operation requests it, but the conversion below makes it.
abbrev pub W : ℕ
W = 4

-- Two transactions have locks on one name only if one of the two locks is W. So where nobody holds W, one transaction at most has a lock.
abbrev pub only_beside_weak : ℕ → ℕ → Bool
only_beside_weak q h = q == 0 || h == 0 || q == W || h == W

-- Two modes convert to X, but I held and K requested make W. So a transaction comes to W only where it inserts a key, which is absent then, and holds I on it.
abbrev pub weak_after : ℕ → ℕ → ℕ
weak_after h q = if h == 0 then q else if q == 0 then h else if q == K && h == I then W else X

-- What each row and side requests: an insert K on its key and I on the next, all else X, and all to commit.
abbrev pub unreached_ask : Row → Side → ℕ → Option (ℕ × Span)
unreached_ask FetchHit Current own = for_commit X
unreached_ask FetchMiss Next own = for_commit X
unreached_ask ScanKey Current own = for_commit X
unreached_ask ScanStop Next own = for_commit X
unreached_ask Insert Current own = for_commit K
unreached_ask Insert Next own = for_commit I
unreached_ask Delete Current own = for_commit X
unreached_ask Delete Next own = for_commit X
unreached_ask _ _ own = None

-- The table. Who had W on a key that it inserted would show the key to others before it commits.
-- No schedule comes to that, since I is held on no absent key. It is granted on a key only while the key is present and no other transaction has a lock there; and while it is held the key stays. Another's delete would request X there; whoever may undo an insert of the key has K or X on it; and its own delete leaves the transaction X in place of I.
-- But by the condition the table isn't safe. The condition follows one name at a time, and tells by the mode alone whether a lock may be on an absent key. A request in I is compatible with a lock in W, so it takes I to be granted beside the W of an insert that is then undone.
abbrev pub unreached : Protocol
unreached = record { count = 4; ok = only_beside_weak; convert = weak_after; ask = unreached_ask; updates = false }
