-- What an engine decides beside the entries of a table, each with a script by which it shows.
use Rattle.std.specs.Prelude.{ℕ, List, [], ◌∷◌, Bool, true, not, ◌&&◌, codes}
use Rattle.kr_model.specs.declared.Op.{Op}
use Rattle.kr_model.specs.declared.Op.TheVariants.{Fetch, Scan, Go, Insert, Delete, Update, Commit, Abort, Back}
use Rattle.kr_model.specs.declared.Event.{Event}
use Rattle.kr_model.specs.Map.{Map}
use Rattle.kr_suite_text.specs.declared.habits.Habit.{Habit}
use Rattle.kr_suite_text.specs.declared.habits.Habit.TheVariants as habit

-- All of them.
abbrev pub all_habits : List Habit
all_habits =
    habit.InsertPresent
    ∷ habit.InsertBesideReader
    ∷ habit.DeleteAbsent
    ∷ habit.UpdateAbsent
    ∷ habit.ScanToUpper
    ∷ habit.ScanPastLast
    ∷ habit.ScanToEnd
    ∷ habit.DeletedStays
    ∷ habit.ScanLocksOn
    ∷ habit.KeyInherits
    ∷ habit.HolderUntested
    ∷ habit.EndUnlocked
    ∷ habit.LostAtSplit
    ∷ habit.EndedHolds
    ∷ habit.AbortKeeps
    ∷ habit.BlindToOwn
    ∷ habit.BackReleases
    ∷ habit.InstantReleases ∷ []

-- The index with which each of the scripts begins.
abbrev pub opening : Map
opening = (10, 1) ∷ (20, 2) ∷ (30, 3) ∷ []

-- Whether a script is tried, by whether the table offers updates, and whether a deleted key stays as a ghost: one with updates where they are offered; where deletes leave ghosts none that shows that a deleted key stays, nor one that rests on a lock for an instant on a key that is deleted.
abbrev pub is_tried : Habit → Bool → Bool → Bool
is_tried habit.UpdateAbsent updates ghosts = updates
is_tried habit.InstantReleases updates ghosts = updates && not ghosts
is_tried habit.DeletedStays updates ghosts = not ghosts
is_tried _ updates ghosts = true

-- What a script is for.
abbrev pub habit_words : Habit → List ℕ
habit_words habit.InsertPresent = codes "line: insert of a present key"
habit_words habit.InsertBesideReader = codes "line: insert of a present key beside a reader of it"
habit_words habit.DeleteAbsent = codes "line: delete of an absent key"
habit_words habit.UpdateAbsent = codes "line: update of an absent key"
habit_words habit.ScanToUpper = codes "line: scan that goes on to its upper key"
habit_words habit.ScanPastLast = codes "line: scan that goes on past its last key"
habit_words habit.ScanToEnd = codes "line: scan that goes on past all keys"
habit_words habit.DeletedStays = codes "habit: a deleted key stays as a name until its transaction ends"
habit_words habit.ScanLocksOn = codes "habit: a scan that ends on its upper key locks the next key too"
habit_words habit.KeyInherits = codes "habit: a new key inherits the locks on the next key"
habit_words habit.HolderUntested = codes "habit: who holds a lock on a key is tested no more there"
habit_words habit.EndUnlocked = codes "habit: no lock is taken past the greatest key"
habit_words habit.LostAtSplit = codes "habit: a lock is lost where a page splits"
habit_words habit.EndedHolds = codes "habit: a transaction that has ended holds its locks"
habit_words habit.AbortKeeps = codes "habit: an abort leaves changes"
habit_words habit.BlindToOwn = codes "habit: a transaction does not see its own changes"
habit_words habit.BackReleases = codes "habit: taking an insert back releases the lock on its key"
habit_words habit.InstantReleases = codes "habit: a lock for an instant releases the one that was held"

-- A step of a transaction.
abbrev pub step : ℕ → Op → Event
step txn op = record { txn = txn; op = op }

-- The steps of a script.
abbrev pub habit_steps : Habit → List Event
habit_steps habit.InsertPresent = step 1 (Insert 20 9) ∷ step 2 (Delete 20) ∷ []
habit_steps habit.InsertBesideReader = step 1 (Fetch 20) ∷ step 2 (Insert 20 9) ∷ []
habit_steps habit.DeleteAbsent = step 1 (Delete 15) ∷ step 2 (Insert 15 9) ∷ []
habit_steps habit.UpdateAbsent = step 1 (Update 15 9) ∷ step 2 (Insert 15 9) ∷ []
habit_steps habit.ScanToUpper = step 1 (Scan 10 20) ∷ step 1 Go ∷ step 2 (Insert 15 9) ∷ []
habit_steps habit.ScanPastLast = step 1 (Scan 20 25) ∷ step 1 Go ∷ step 2 (Insert 25 9) ∷ []
habit_steps habit.ScanToEnd = step 1 (Scan 30 40) ∷ step 1 Go ∷ step 2 (Insert 35 9) ∷ []
habit_steps habit.DeletedStays = step 1 (Delete 30) ∷ step 2 (Delete 25) ∷ []
habit_steps habit.ScanLocksOn = step 1 (Insert 15 9) ∷ step 2 (Scan 10 10) ∷ []
habit_steps habit.KeyInherits = step 1 (Insert 27 9) ∷ step 2 (Insert 25 9) ∷ step 2 (Fetch 25) ∷ []
habit_steps habit.HolderUntested = step 1 (Fetch 20) ∷ step 2 (Fetch 20) ∷ step 1 (Delete 20) ∷ []
habit_steps habit.EndUnlocked = step 1 (Fetch 35) ∷ step 2 (Insert 35 9) ∷ []
habit_steps habit.LostAtSplit = step 1 (Insert 40 9) ∷ step 1 (Insert 50 9) ∷ step 1 (Insert 60 9) ∷ step 1 (Insert 70 9) ∷ step 2 (Fetch 40) ∷ []
habit_steps habit.EndedHolds = step 1 (Fetch 20) ∷ step 1 (Insert 25 9) ∷ step 1 Commit ∷ step 2 (Fetch 25) ∷ step 2 (Delete 20) ∷ []
habit_steps habit.AbortKeeps = step 1 (Insert 25 9) ∷ step 1 (Delete 20) ∷ step 1 Abort ∷ step 2 (Fetch 20) ∷ step 2 (Fetch 25) ∷ []
habit_steps habit.BlindToOwn = step 1 (Insert 25 9) ∷ step 1 (Fetch 25) ∷ step 1 (Delete 25) ∷ step 1 (Fetch 25) ∷ []
habit_steps habit.BackReleases = step 1 (Insert 25 9) ∷ step 1 Back ∷ step 2 (Insert 25 9) ∷ step 2 (Fetch 25) ∷ []
habit_steps habit.InstantReleases = step 1 (Fetch 20) ∷ step 1 (Delete 20) ∷ step 1 Back ∷ step 2 (Update 20 9) ∷ []
