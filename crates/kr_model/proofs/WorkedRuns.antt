-- Worked examples of runs: what is attempted, the replies, and what stands at the end.
use Rattle.std.specs.Prelude.{◌≡◌, ℕ, List, [], ◌∷◌, ◌++◌, map, Option, Some, None, refl}
use Rattle.kr_model.specs.Protocol.{Protocol}
use Rattle.kr_model.specs.Kvl.{kvl, IX, S, SIX, X}
use Rattle.kr_model.specs.KvlUpdate.{kvl_update}
use Rattle.kr_model.specs.Im.{im}
use Rattle.kr_model.specs.Map.{Map}
use Rattle.kr_model.specs.Locks.{Holder, Locks, own}
use Rattle.kr_model.specs.State.{start}
use Rattle.kr_model.specs.Run.{run, replies_of, programs}
use Rattle.kr_model.specs.Difference.{Difference, first_difference}
use Rattle.kr_model.specs.declared.Name.{Name}
use Rattle.kr_model.specs.declared.Name.TheVariants.{Key, End}
use Rattle.kr_model.specs.declared.Op.{Op}
use Rattle.kr_model.specs.declared.Op.TheVariants.{Fetch, Scan, Go, Insert, Delete, Update, Commit, Abort, Back}
use Rattle.kr_model.specs.declared.Event.{Event}
use Rattle.kr_model.specs.declared.Reply.{Reply}
use Rattle.kr_model.specs.declared.Reply.TheVariants as r
use Rattle.kr_model.specs.declared.Refusal.TheVariants as refusal
use Rattle.kr_model.proofs.WorkedCovers.{insert_always_ix, update_at_once, asks_nothing}

-- How a run is shown --

-- The operation, attempted by t.
abbrev pub by : ℕ → Op → Event
by t o = record { txn = t; op = o }

-- The opening map of most examples.
abbrev pub three : Map
three = (10, 1) ∷ (20, 2) ∷ (30, 3) ∷ []

-- A lock: its name, the transaction that holds it, and its mode.
abbrev pub held : Name → ℕ → ℕ → Holder × ℕ
held n t m = ((n, t), m)

-- The replies.
abbrev pub replies : Protocol → Map → List Event → List Reply
replies p opening events = let r = run p (start opening) events in replies_of r.history

-- The locks at the end.
abbrev pub locks : Protocol → Map → List Event → Locks
locks p opening events = let r = run p (start opening) events in r.state.locks

-- The replies, and the locks at the end.
abbrev pub replies_and_locks : Protocol → Map → List Event → List Reply × Locks
replies_and_locks p opening events = (replies p opening events, locks p opening events)

-- A whole report: the replies, and at the end the locks, the index and the unfinished transactions.
abbrev pub report : Protocol → Map → List Event → List Reply × Locks × Map × List ℕ
report p opening events =
    let r = run p (start opening) events in
    (replies_of r.history, r.state.locks, r.state.map, map (λ a. a.0) r.state.active)

-- The first answer that isn't that of the serial run.
abbrev pub verdict : Protocol → Map → List Event → Option Difference
verdict p opening events = let r = run p (start opening) events in first_difference opening (programs r.history)

-- A verdict of not serial: the transaction, its operation from 1, the answer given and that of the serial run.
abbrev pub not_serial : ℕ → ℕ → Reply → Reply → Option Difference
not_serial t n given serial = Some (record { txn = t; operation = n; given = given; serial = serial })

-- Reading and inserting --

-- The phantom: an insert into a gap that another has read is blocked.
abbrev pub phantom : List Event
phantom = by 1 (Fetch 15) ∷ by 2 (Insert 17 5) ∷ []

-- The first report, which is that of the phantom.
pub first_report : report kvl three phantom ≡ (r.None ∷ r.Blocked (1 ∷ []) ∷ [], held (Key 20) 1 S ∷ [], three, 1 ∷ [])
first_report = refl

-- The phantom: serializable.
pub phantom-verdict : verdict kvl three phantom ≡ None
phantom-verdict = refl

-- Ended number: a transaction that has committed attempts no more.
pub ended_number : report kvl ([]) (by 1 (Insert 5 1) ∷ by 1 Commit ∷ by 1 (Fetch 5) ∷ [])
    ≡ (r.Done ∷ r.Committed ∷ r.Refused refusal.Ended ∷ [], [], (5, 1) ∷ [], [])
ended_number = refl

-- Shared duplicates: two transactions find the same key present, and one inserts past all keys.
pub shared_duplicates : replies_and_locks kvl three (by 1 (Insert 10 5) ∷ by 2 (Insert 10 6) ∷ by 2 (Insert 40 1) ∷ [])
    ≡ (r.Duplicate ∷ r.Duplicate ∷ r.Done ∷ [], held (Key 10) 1 S ∷ held (Key 10) 2 S ∷ held (Key 40) 2 IX ∷ [])
shared_duplicates = refl

-- The own split: who splits a gap that it has read covers both parts.
pub own_split : replies_and_locks kvl three (by 1 (Fetch 12) ∷ by 1 (Insert 15 5) ∷ by 2 (Insert 12 7) ∷ [])
    ≡ (r.None ∷ r.Done ∷ r.Blocked (1 ∷ []) ∷ [], held (Key 15) 1 X ∷ held (Key 20) 1 S ∷ [])
own_split = refl

-- Two inserts in one gap, under key-value locking: both are granted.
pub two_inserts_in_one_gap-kvl : replies kvl three (by 1 (Insert 15 5) ∷ by 2 (Insert 12 7) ∷ []) ≡ r.Done ∷ r.Done ∷ []
two_inserts_in_one_gap-kvl = refl

-- Two inserts in one gap, under index-specific locking: the second is blocked.
pub two_inserts_in_one_gap-im : replies im three (by 1 (Insert 15 5) ∷ by 2 (Insert 12 7) ∷ []) ≡ r.Done ∷ r.Blocked (1 ∷ []) ∷ []
two_inserts_in_one_gap-im = refl

-- Duplicate insert: it reads the key, and so keeps others from deleting it.
pub duplicate_insert : replies_and_locks kvl three (by 1 (Insert 20 9) ∷ by 2 (Delete 20) ∷ [])
    ≡ (r.Duplicate ∷ r.Blocked (1 ∷ []) ∷ [], held (Key 20) 1 S ∷ [])
duplicate_insert = refl

-- Updating --

-- A value updated, and the update undone with its transaction.
abbrev pub update_undone : List Event
update_undone = by 1 (Update 20 9) ∷ by 2 (Fetch 20) ∷ by 1 (Update 25 1) ∷ by 1 Abort ∷ by 2 (Fetch 20) ∷ []

-- Update undone: nobody reads the value before its transaction ends; an update of an absent key reads the gap.
pub update_undone-report : report kvl_update three update_undone
    ≡ (r.Updated 2 ∷ r.Blocked (1 ∷ []) ∷ r.Absent ∷ r.Aborted ∷ r.Found 2 ∷ [], held (Key 20) 2 S ∷ [], three, 2 ∷ [])
update_undone-report = refl

-- Update undone: serializable.
pub update_undone-verdict : verdict kvl_update three update_undone ≡ None
update_undone-verdict = refl

-- Update not offered: key-value locking refuses it, and nothing changes.
pub update_not_offered : report kvl three (by 1 (Update 20 9) ∷ []) ≡ (r.Refused refusal.NoUpdate ∷ [], [], three, [])
update_not_offered = refl

-- An update of the value that stands there is a change all the same.
pub update_to_the_same_value : replies kvl_update three (by 1 (Update 20 2) ∷ by 2 (Fetch 20) ∷ by 1 Back ∷ by 1 Back ∷ [])
    ≡ r.Updated 2 ∷ r.Blocked (1 ∷ []) ∷ r.Undone 0 ∷ r.Refused refusal.NothingLeft ∷ []
update_to_the_same_value = refl

-- Two updates of a key: an abort leaves the value that stood there before the first, and not the one between.
pub two_updates_undone : report kvl_update three (by 1 (Update 20 9) ∷ by 1 (Update 20 8) ∷ by 1 Abort ∷ by 2 (Fetch 20) ∷ [])
    ≡ (r.Updated 2 ∷ r.Updated 9 ∷ r.Aborted ∷ r.Found 2 ∷ [], held (Key 20) 2 S ∷ [], three, 2 ∷ [])
two_updates_undone = refl

-- An updated key deleted and inserted again, and all of it undone at once.
pub update_delete_insert_abort : report kvl_update three (by 1 (Update 20 9) ∷ by 1 (Delete 20) ∷ by 1 (Insert 20 7) ∷ by 1 (Update 20 6) ∷ by 1 Abort ∷ [])
    ≡ (r.Updated 2 ∷ r.Deleted 9 ∷ r.Done ∷ r.Updated 7 ∷ r.Aborted ∷ [], [], three, [])
update_delete_insert_abort = refl

-- Updates undone one at a time: of a key inserted before, and of one that stood there.
pub updates_back : report kvl_update three (by 1 (Insert 15 5) ∷ by 1 (Update 15 6) ∷ by 1 (Update 20 9) ∷ by 1 Back ∷ by 1 Back ∷ by 1 (Update 15 7) ∷ by 1 Back ∷ by 1 Abort ∷ [])
    ≡ (r.Done ∷ r.Updated 5 ∷ r.Updated 2 ∷ r.Undone 2 ∷ r.Undone 1 ∷ r.Refused refusal.RollingBack ∷ r.Undone 0 ∷ r.Aborted ∷ [], [], three, [])
updates_back = refl

-- An update, an insert and an update of the inserted key, undone one at a time.
abbrev pub update_insert_update : List Event
update_insert_update = by 1 (Update 20 9) ∷ by 1 (Insert 25 5) ∷ by 1 (Update 25 6) ∷ by 2 (Fetch 25) ∷ by 1 Back ∷ by 2 (Fetch 25) ∷ by 1 Back ∷ by 2 (Fetch 25) ∷ by 1 Back ∷ by 2 (Fetch 20) ∷ by 1 Abort ∷ by 2 (Fetch 20) ∷ []

-- An update and a back in one transaction: another finds 25 gone once its insert is undone, and reads 20 only after the abort, since the locks stay.
pub update_insert_update-report : report kvl_update three update_insert_update
    ≡ (
      r.Updated 2 ∷ r.Done ∷ r.Updated 5 ∷ r.Blocked (1 ∷ []) ∷ r.Undone 2 ∷ r.Blocked (1 ∷ []) ∷ r.Undone 1 ∷ r.None ∷ r.Undone 0 ∷ r.Blocked (1 ∷ []) ∷ r.Aborted ∷ r.Found 2 ∷ [],
      held (Key 20) 2 S ∷ held (Key 30) 2 S ∷ [],
      three,
      2 ∷ [],
    )
update_insert_update-report = refl

-- An update and a back in one transaction: serializable, also where the other commits.
pub update_insert_update-verdict : verdict kvl_update three (update_insert_update ++ by 2 Commit ∷ []) ≡ None
update_insert_update-verdict = refl

-- Deleting and aborting --

-- Delete of the last key: its gap is covered on the end.
pub delete_of_the_last_key : replies_and_locks kvl three (by 1 (Delete 30) ∷ by 2 (Fetch 40) ∷ [])
    ≡ (r.Deleted 3 ∷ r.Blocked (1 ∷ []) ∷ [], held End 1 X ∷ [])
delete_of_the_last_key = refl

-- Delete, insert, abort: the key stands as before the first change of it.
pub delete_insert_abort : replies kvl three (by 1 (Delete 20) ∷ by 1 (Insert 20 9) ∷ by 1 Abort ∷ by 2 (Fetch 20) ∷ by 1 (Fetch 20) ∷ [])
    ≡ r.Deleted 2 ∷ r.Done ∷ r.Aborted ∷ r.Found 2 ∷ r.Refused refusal.Ended ∷ []
delete_insert_abort = refl

-- The gap widens and narrows: a removal widens a gap, and its undo narrows it.
pub gap_widens_and_narrows : replies_and_locks kvl three (by 1 (Delete 30) ∷ by 2 (Fetch 25) ∷ by 1 Abort ∷ by 2 (Fetch 25) ∷ [])
    ≡ (r.Deleted 3 ∷ r.Blocked (1 ∷ []) ∷ r.Aborted ∷ r.None ∷ [], held (Key 30) 2 S ∷ [])
gap_widens_and_narrows = refl

-- One change at a time --

-- Two changes back: a delete and an insert of one key are undone one after the other. While the delete stands the lock on 30 keeps others from the key, and then the
-- lock on the key itself does, until the abort. Nothing else is allowed to who rolls back.
pub two_changes_back : report kvl three (by 1 (Delete 20) ∷ by 1 (Insert 20 9) ∷ by 1 Back ∷ by 2 (Fetch 20) ∷ by 1 (Fetch 10) ∷ by 1 Commit ∷ by 1 Back ∷ by 2 (Fetch 20) ∷ by 1 Back ∷ by 1 Abort ∷ by 2 (Fetch 20) ∷ [])
    ≡ (
      r.Deleted 2 ∷ r.Done ∷ r.Undone 1 ∷ r.Blocked (1 ∷ []) ∷ r.Refused refusal.RollingBack ∷ r.Refused refusal.RollingBack ∷ r.Undone 0 ∷ r.Blocked (1 ∷ []) ∷ r.Refused refusal.NothingLeft ∷ r.Aborted ∷ r.Found 2 ∷ [],
      held (Key 20) 2 S ∷ [],
      three,
      2 ∷ [],
    )
two_changes_back = refl

-- Back beside another: the key that comes back is above a gap that another has split.
abbrev pub back_beside_another : List Event
back_beside_another = by 1 (Insert 15 5) ∷ by 2 (Insert 12 7) ∷ by 1 Back ∷ by 2 Commit ∷ by 3 (Fetch 15) ∷ by 1 Abort ∷ []

-- Back beside another: the gap merges, and no lock of who undoes is left.
pub back_beside_another-report : report kvl three back_beside_another
    ≡ (r.Done ∷ r.Done ∷ r.Undone 0 ∷ r.Committed ∷ r.None ∷ r.Aborted ∷ [], held (Key 20) 3 S ∷ [], (10, 1) ∷ (12, 7) ∷ (20, 2) ∷ (30, 3) ∷ [], 3 ∷ [])
back_beside_another-report = refl

-- Back beside another: serializable.
pub back_beside_another-verdict : verdict kvl three back_beside_another ≡ None
back_beside_another-verdict = refl

-- Back in a scan: the scan is dropped, and isn't gone on with. Who has changed nothing takes nothing back.
pub back_in_a_scan : replies kvl three (by 1 Back ∷ by 1 (Insert 15 5) ∷ by 1 (Scan 10 30) ∷ by 1 (Fetch 10) ∷ by 1 Back ∷ by 1 Go ∷ by 1 Abort ∷ by 1 Back ∷ [])
    ≡ r.Refused refusal.NothingLeft ∷ r.Done ∷ r.Going 10 ∷ r.Refused refusal.Busy ∷ r.Undone 0 ∷ r.Refused refusal.RollingBack ∷ r.Aborted ∷ r.Refused refusal.Ended ∷ []
back_in_a_scan = refl

-- Scans --

-- Scan against delete: a scan waits for a key that another has deleted.
pub scan_against_delete : replies_and_locks kvl three (by 1 (Scan 10 25) ∷ by 2 (Delete 20) ∷ by 1 Go ∷ by 2 Abort ∷ by 1 Go ∷ by 1 Go ∷ [])
    ≡ (
      r.Going 10 ∷ r.Deleted 2 ∷ r.Blocked (2 ∷ []) ∷ r.Aborted ∷ r.Going 20 ∷ r.Rows ((10, 1) ∷ (20, 2) ∷ []) ∷ [],
      held (Key 10) 1 S ∷ held (Key 20) 1 S ∷ held (Key 30) 1 S ∷ [],
    )
scan_against_delete = refl

-- The greatest key that there may be, present.
abbrev pub greatest : Map
greatest = (18446744073709551615, 4) ∷ []

-- A scan from that key to itself.
abbrev pub scan_greatest : List Event
scan_greatest = by 1 (Scan 18446744073709551615 18446744073709551615) ∷ []

-- Scan of the greatest key: it ends at its first step.
pub scan_of_the_greatest_key : replies kvl greatest scan_greatest ≡ r.Rows greatest ∷ []
scan_of_the_greatest_key = refl

-- Scan of the greatest key: it takes no lock on the end.
pub scan_of_the_greatest_key-end : own (locks kvl greatest scan_greatest) 1 End ≡ 0
scan_of_the_greatest_key-end = refl

-- Scan of nothing: an empty index is one gap, covered on the end.
pub scan_of_nothing : replies_and_locks kvl ([]) (by 1 (Scan 0 18446744073709551615) ∷ by 2 (Insert 5 1) ∷ [])
    ≡ (r.Rows [] ∷ r.Blocked (1 ∷ []) ∷ [], held End 1 S ∷ [])
scan_of_nothing = refl

-- Scan of an own insert: IX and S convert to SIX.
pub scan_of_an_own_insert : replies_and_locks kvl three (by 1 (Insert 15 5) ∷ by 1 (Scan 15 15) ∷ [])
    ≡ (r.Done ∷ r.Rows ((15, 5) ∷ []) ∷ [], held (Key 15) 1 SIX ∷ [])
scan_of_an_own_insert = refl

-- Refusals in a scan: none to go on with, a range upside down, and a commit in the midst of one.
pub refusals_in_a_scan : replies kvl three (by 1 Go ∷ by 1 (Scan 30 10) ∷ by 1 (Scan 10 30) ∷ by 1 Commit ∷ by 1 Abort ∷ [])
    ≡ r.Refused refusal.NoScan ∷ r.Refused refusal.BadRange ∷ r.Going 10 ∷ r.Refused refusal.Busy ∷ r.Aborted ∷ []
refusals_in_a_scan = refl

-- Scan ends on its upper key: it requests no further name, so an insert past it is granted and one within isn't.
pub scan_ends_on_its_upper_key : replies_and_locks kvl three (by 1 (Scan 10 20) ∷ by 1 Go ∷ by 2 (Insert 25 5) ∷ by 2 (Insert 15 1) ∷ [])
    ≡ (r.Going 10 ∷ r.Rows ((10, 1) ∷ (20, 2) ∷ []) ∷ r.Done ∷ r.Blocked (1 ∷ []) ∷ [], held (Key 10) 1 S ∷ held (Key 20) 1 S ∷ held (Key 25) 2 IX ∷ [])
scan_ends_on_its_upper_key = refl

-- Empty scan: a range between two keys is covered on the name above it.
pub empty_scan : replies_and_locks kvl three (by 1 (Scan 12 15) ∷ []) ≡ (r.Rows [] ∷ [], held (Key 20) 1 S ∷ [])
empty_scan = refl

-- Verdicts --

-- The own split under the table whose insert always takes IX.
abbrev pub split_not_serial : List Event
split_not_serial = by 1 (Fetch 12) ∷ by 1 (Insert 15 5) ∷ by 2 (Insert 12 7) ∷ by 2 Commit ∷ by 1 Commit ∷ []

-- The split that isn't serializable: a phantom.
pub split_not_serial-report : report insert_always_ix three split_not_serial
    ≡ (r.None ∷ r.Done ∷ r.Done ∷ r.Committed ∷ r.Committed ∷ [], [], (10, 1) ∷ (12, 7) ∷ (15, 5) ∷ (20, 2) ∷ (30, 3) ∷ [], [])
split_not_serial-report = refl

-- The split that isn't serializable: the fetch found nothing, and finds 7 in commit order.
pub split_not_serial-verdict : verdict insert_always_ix three split_not_serial ≡ not_serial 1 1 r.None (r.Found 7)
split_not_serial-verdict = refl

-- An update that isn't kept: another reads the value, which is then undone, and commits.
pub update_not_serial : verdict update_at_once three (by 1 (Update 20 9) ∷ by 2 (Fetch 20) ∷ by 1 Abort ∷ by 2 Commit ∷ []) ≡ not_serial 2 1 (r.Found 9) (r.Found 2)
update_not_serial = refl

-- Scan not serializable: a key that it has read is deleted by one who commits first.
pub scan_not_serial : verdict asks_nothing three (by 1 (Fetch 30) ∷ by 1 (Scan 10 20) ∷ by 2 (Delete 10) ∷ by 2 Commit ∷ by 1 Go ∷ by 1 Commit ∷ [])
    ≡ not_serial 1 2 (r.Rows ((10, 1) ∷ (20, 2) ∷ [])) (r.Rows ((20, 2) ∷ []))
scan_not_serial = refl

-- Fetch not serializable: a key is found, and then isn't.
pub fetch_not_serial : verdict asks_nothing three (by 1 (Fetch 20) ∷ by 2 (Delete 20) ∷ by 2 Commit ∷ by 1 (Fetch 20) ∷ by 1 Commit ∷ [])
    ≡ not_serial 1 1 (r.Found 2) r.None
fetch_not_serial = refl

-- A scan that meets a deleted key only after the delete has committed.
abbrev pub by_chance : List Event
by_chance = by 1 (Scan 10 30) ∷ by 2 (Delete 20) ∷ by 2 Commit ∷ by 1 Go ∷ by 1 Commit ∷ []

-- Serializable by chance: the replies.
pub serial_by_chance : replies asks_nothing three by_chance
    ≡ r.Going 10 ∷ r.Deleted 2 ∷ r.Committed ∷ r.Rows ((10, 1) ∷ (30, 3) ∷ []) ∷ r.Committed ∷ []
serial_by_chance = refl

-- Serializable by chance: the verdict.
pub serial_by_chance-verdict : verdict asks_nothing three by_chance ≡ None
serial_by_chance-verdict = refl
