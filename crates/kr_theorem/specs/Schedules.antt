-- The fixed schedules, of the transactions 1, 2 and 3. In the opening are the keys 20, 30, 60 and 90, unless 1 inserts 60.
use Rattle.std.specs.Prelude.{ℕ, zero, suc, ◌+◌, List, [], ◌∷◌, ◌++◌}
use Rattle.kr_model.specs.declared.Event.{Event}
use Rattle.kr_model.specs.declared.Op.{Op}
use Rattle.kr_model.specs.declared.Op.TheVariants.{Fetch, Scan, Insert, Delete, Update, Commit, Abort}
use Rattle.kr_model.specs.Protocol.{Protocol}
use Rattle.kr_model.specs.Map.{Map, without}
use Rattle.kr_model.proofs.WorkedRuns.{by}
use Rattle.kr_theorem.specs.Fixed.{FixedHole, fetch_lets_delete, fetch_lets_update, scan_lets_delete, scan_lets_update, miss_lets_delete, stop_lets_delete, update_lets_fetch, update_lets_scan, update_lets_delete, update_lets_update, insert_lets_fetch, insert_lets_scan, insert_lets_delete, insert_lets_update, insert_lets_miss, insert_lets_stop, insert_lets_delete_below, delete_lets_miss, delete_lets_scan, delete_lets_stop, delete_lets_delete, delete_lets_delete_below, miss_lets_insert, scan_lets_insert, stop_lets_insert, delete_lets_insert}

-- The opening.
abbrev pub keys : Map
keys = (20, 2) ∷ (30, 3) ∷ (60, 6) ∷ (90, 9) ∷ []

-- 1 reads 60, 2 deletes or updates it, and both commit.
abbrev pub read_then : Op → Op → List Event
read_then reads changes = by 1 reads ∷ by 2 changes ∷ by 2 Commit ∷ by 1 Commit ∷ []

-- 1 reads the gap below 60, 2 deletes 60 and inserts 40 into the gap, and both commit.
abbrev pub read_then_merge : Op → List Event
read_then_merge reads = by 1 reads ∷ by 2 (Delete 60) ∷ by 2 (Insert 40 4) ∷ by 2 Commit ∷ by 1 Commit ∷ []

-- 1 changes something, 2 reads or overwrites it, 1 aborts, and 2 commits.
abbrev pub dirty : Op → Op → List Event
dirty changes does = by 1 changes ∷ by 2 does ∷ by 1 Abort ∷ by 2 Commit ∷ []

-- 1 inserts 60, 2 reads the gap below it, 1 aborts, 3 inserts 40 into that gap and commits, and 2 commits.
abbrev pub dirty_gap : Op → List Event
dirty_gap reads = by 1 (Insert 60 6) ∷ by 2 reads ∷ by 1 Abort ∷ by 3 (Insert 40 4) ∷ by 3 Commit ∷ by 2 Commit ∷ []

-- 1 changes something, 2 deletes the key k below it, 1 aborts, 3 finds nothing at k and commits, and 2 aborts.
abbrev pub dirty_delete : Op → ℕ → List Event
dirty_delete changes k = by 1 changes ∷ by 2 (Delete k) ∷ by 1 Abort ∷ by 3 (Fetch k) ∷ by 3 Commit ∷ by 2 Abort ∷ []

-- 1 inserts n keys, each below the one before: 40 + n down to 41.
abbrev pub inserts : ℕ → List Event
inserts zero = []
inserts (suc n) = by 1 (Insert (40 + suc n) 5) ∷ inserts n

-- 1 reads the gap below 60 and inserts n keys into it, 2 inserts 40 below them, and both commit.
abbrev pub read_then_insert : Op → ℕ → List Event
read_then_insert reads n = by 1 reads ∷ (inserts n ++ (by 2 (Insert 40 4) ∷ by 2 Commit ∷ by 1 Commit ∷ []))

-- 1 deletes 30 and inserts n keys into the gap, 2 inserts 40 below them or deletes 60 above it and commits, 3 finds nothing at 30 and commits, and 1 aborts.
abbrev pub delete_then : ℕ → Op → List Event
delete_then n changes = by 1 (Delete 30) ∷ (inserts n ++ (by 2 changes ∷ by 2 Commit ∷ by 3 (Fetch 30) ∷ by 3 Commit ∷ by 1 Abort ∷ []))

-- The schedule that goes wrong by each hole.
abbrev pub schedule : {p : Protocol} → FixedHole p → List Event
schedule (fetch_lets_delete l) = read_then (Fetch 60) (Delete 60)
schedule (fetch_lets_update u l) = read_then (Fetch 60) (Update 60 7)
schedule (scan_lets_delete l) = read_then (Scan 40 60) (Delete 60)
schedule (scan_lets_update u l) = read_then (Scan 40 60) (Update 60 7)
schedule (miss_lets_delete l) = read_then_merge (Fetch 40)
schedule (stop_lets_delete l) = read_then_merge (Scan 40 40)
schedule (update_lets_fetch u l) = dirty (Update 60 7) (Fetch 60)
schedule (update_lets_scan u l) = dirty (Update 60 7) (Scan 60 60)
schedule (update_lets_delete u l) = dirty (Update 60 7) (Delete 60)
schedule (update_lets_update u l) = dirty (Update 60 7) (Update 60 8)
schedule (insert_lets_fetch l) = dirty (Insert 60 6) (Fetch 60)
schedule (insert_lets_scan l) = dirty (Insert 60 6) (Scan 60 60)
schedule (insert_lets_delete l n) = dirty (Insert 60 6) (Delete 60)
schedule (insert_lets_update u l) = dirty (Insert 60 6) (Update 60 7)
schedule (insert_lets_miss l) = dirty_gap (Fetch 40)
schedule (insert_lets_stop l) = dirty_gap (Scan 40 40)
schedule (insert_lets_delete_below l) = dirty_delete (Insert 60 6) 30
schedule (delete_lets_miss l) = dirty (Delete 30) (Fetch 30)
schedule (delete_lets_scan l) = dirty (Delete 30) (Scan 30 60)
schedule (delete_lets_stop l) = dirty (Delete 30) (Scan 30 30)
schedule (delete_lets_delete l) = delete_then 0 (Delete 60)
schedule (delete_lets_delete_below l) = dirty_delete (Delete 30) 20
schedule (miss_lets_insert n le l) = read_then_insert (Fetch 40) n
schedule (scan_lets_insert n le l) = read_then_insert (Scan 40 60) n
schedule (stop_lets_insert n le l) = read_then_insert (Scan 40 40) n
schedule (delete_lets_insert n le l) = delete_then n (Insert 40 4)

-- The opening that it starts from.
abbrev pub opening : {p : Protocol} → FixedHole p → Map
opening (insert_lets_fetch l) = without keys 60
opening (insert_lets_scan l) = without keys 60
opening (insert_lets_delete l n) = without keys 60
opening (insert_lets_update u l) = without keys 60
opening (insert_lets_miss l) = without keys 60
opening (insert_lets_stop l) = without keys 60
opening (insert_lets_delete_below l) = without keys 60
opening _ = keys
