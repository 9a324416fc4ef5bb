-- What a step changes for those who wait.
use Rattle.std.specs.Prelude.{◌≡◌, ◌≢◌, ℕ, false, List, map}
use Rattle.kr_model.specs.declared.Op.{Op}
use Rattle.kr_model.specs.declared.Reply.{Reply}
use Rattle.kr_model.specs.Protocol.{Protocol, IsLawful, IsMode}
use Rattle.kr_model.specs.Map.{Map, IsMap}
use Rattle.kr_model.specs.State.{State}
use Rattle.kr_model.specs.Step.{step, is_full, WaitsFor}
use Rattle.kr_model.specs.WellFormed.{IsState}
use Rattle.kr_model.specs.declared.Reply.TheVariants as reply
use Rattle.kr_records.specs.declared.wakes.Change.{Change}
use Rattle.kr_records.specs.declared.wakes.Change.TheVariants.{Nothing, Locks, Index}

-- What a granted step with this reply changed of that for which others wait: a commit lets locks go, and what changes or may change the keys, or may undo such a change, changes the index; nothing else does.
abbrev pub change_by : Reply → Change
change_by reply.Committed = Locks
change_by reply.Aborted = Index
change_by reply.Done = Index
change_by (reply.Deleted v) = Index
change_by (reply.Undone n) = Index
change_by _ = Nothing

-- The first of two changes, or the second where the first is nothing.
abbrev pub first_change : Change → Change → Change
first_change Nothing second = second
first_change first _ = first

-- A conversion keeps each conflict: a request that conflicts with a held mode conflicts with every mode that it is converted to.
abbrev pub KeepsConflicts : Protocol → Type 0
KeepsConflicts p = (q held more : ℕ) → IsMode p q → IsMode p held → IsMode p more → p.ok q held ≡ false → p.ok q (p.convert held more) ≡ false

-- The keys of an index.
abbrev pub keys_of : Map → List ℕ
keys_of m = map (λ e. e.0) m

-- An operation of another than t waits for each for whom it waited, unless 64 others are active now.
abbrev pub KeepWaiting : Protocol → State → State → ℕ → Type 0
KeepWaiting p s new t = (u : ℕ) (o : Op) → u ≢ t → is_full new u ≡ false → (v : ℕ) → WaitsFor p s u o v → WaitsFor p new u o v

-- An operation of another than t waits for nobody for whom it didn't wait, unless 64 others were active.
abbrev pub WaitForNoMore : Protocol → State → State → ℕ → Type 0
WaitForNoMore p s new t = (u : ℕ) (o : Op) → u ≢ t → is_full s u ≡ false → (v : ℕ) → WaitsFor p new u o v → WaitsFor p s u o v

-- A step with this reply, under a protocol whose conversions keep conflicts, lets no operation of another go on.
abbrev pub FreesNobody : Reply → Type 0
FreesNobody r = (p : Protocol) → IsLawful p → KeepsConflicts p → (s : State) → IsState p s → (t : ℕ) (o : Op) → (step p s t o).0 ≡ r → KeepWaiting p s (step p s t o).1 t

-- A step with this reply leaves the keys of the index.
abbrev pub LeavesKeys : Reply → Type 0
LeavesKeys r = (p : Protocol) (s : State) → IsMap s.map → (t : ℕ) (o : Op) → (step p s t o).0 ≡ r → keys_of (step p s t o).1.map ≡ keys_of s.map

-- A step with this reply puts nobody in the way of another.
abbrev pub BlocksNobody : Reply → Type 0
BlocksNobody r = (p : Protocol) → IsLawful p → (s : State) → IsState p s → (t : ℕ) (o : Op) → (step p s t o).0 ≡ r → WaitForNoMore p s (step p s t o).1 t
