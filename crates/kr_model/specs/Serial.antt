-- Whole operations, one after another, and what it is for committed programs to be serializable in commit order.
use Rattle.std.specs.Prelude.{◌≡◌, ℕ, List, [], ◌∷◌, Option, Some, None}
use Rattle.std.specs.List.{flat_map}
use Rattle.std.specs.List.Sorted.{IsPermutation}
use Rattle.kr_model.specs.declared.Op.{Op}
use Rattle.kr_model.specs.declared.Op.TheVariants as op
use Rattle.kr_model.specs.declared.Event.{Event}
use Rattle.kr_model.specs.declared.Reply.{Reply}
use Rattle.kr_model.specs.declared.Reply.TheVariants as reply
use Rattle.kr_model.specs.declared.Refusal.TheVariants as refusal
use Rattle.kr_model.specs.Protocol.{Protocol}
use Rattle.kr_model.specs.Map.{Map, IsMap, get, set, without, pairs_between, restore_all}
use Rattle.kr_model.specs.State.{Active, start}
use Rattle.kr_model.specs.Run.{Answered, Program, Trace, programs, run}

-- Whole operations --

-- The answer of a whole operation, and the map after it.
abbrev pub Whole : Type 0
Whole = Reply × Map

-- The answer of a fetch, by what stands at the key.
abbrev pub found_or_none : Option ℕ → Reply
found_or_none (Some v) = reply.Found v
found_or_none None = reply.None

-- An insert of k with v, by what stands at k.
abbrev pub whole_insert : Map → ℕ → ℕ → Option ℕ → Whole
whole_insert m k v (Some w) = (reply.Duplicate, m)
whole_insert m k v None = (reply.Done, set m k v)

-- A delete of k, by what stands at k.
abbrev pub whole_delete : Map → ℕ → Option ℕ → Whole
whole_delete m k (Some w) = (reply.Deleted w, without m k)
whole_delete m k None = (reply.Absent, m)

-- An update of k to v, by what stands at k.
abbrev pub whole_update : Map → ℕ → ℕ → Option ℕ → Whole
whole_update m k v (Some w) = (reply.Updated w, set m k v)
whole_update m k v None = (reply.Absent, m)

-- An operation run whole on a map, without locks, gaps or steps; a program has no other than the first five.
abbrev pub whole : Map → Op → Whole
whole m (op.Fetch k) = (found_or_none (get m k), m)
whole m (op.Scan lo hi) = (reply.Rows (pairs_between m lo hi), m)
whole m (op.Insert k v) = whole_insert m k v (get m k)
whole m (op.Delete k) = whole_delete m k (get m k)
whole m (op.Update k v) = whole_update m k v (get m k)
whole m op.Go = (reply.Refused refusal.NoScan, m)
whole m op.Commit = (reply.Committed, m)
whole m op.Abort = (reply.Aborted, m)
whole m op.Back = (reply.Refused refusal.NothingLeft, m)

-- Serial --

-- The operations of all programs, one program after another.
abbrev pub all_operations : List Program → List Answered
all_operations ps = flat_map (λ p. p.operations) ps

-- Each answer is that of the whole operation on the map that the operations before it left.
abbrev pub AreAnswered : Map → List Answered → Type 0
AreAnswered m [] = Unit {0}
AreAnswered m ((o, a) ∷ rest) = (a ≡ (whole m o).0) × AreAnswered (whole m o).1 rest

-- The map that the operations leave, run whole.
abbrev pub map_left : Map → List Answered → Map
map_left m [] = m
map_left m ((o, a) ∷ rest) = map_left (whole m o).1 rest

-- Programs in commit order are serializable in it, from the map m: each answer is the one that the serial run gives, in which they run whole, one after another.
abbrev pub AreSerial : Map → List Program → Type 0
AreSerial m ps = AreAnswered m (all_operations ps)

-- The main theorem --

-- The map with the changes of each of these transactions undone, one transaction after another.
abbrev pub rolled_back : Map → List (ℕ × Active) → Map
rolled_back m [] = m
rolled_back m ((t, a) ∷ rest) = rolled_back (restore_all m a.changes) rest

-- The committed programs are serializable in commit order from the opening map, and the index with the unfinished rolled back, in any order, is the map so left.
abbrev pub IsSerialRun : Map → Trace → Type 0
IsSerialRun opening r =
    AreSerial opening (programs r.history)
    × ((unfinished : List (ℕ × Active)) → IsPermutation r.state.active unfinished → rolled_back r.state.map unfinished ≡ map_left opening (all_operations (programs r.history)))

-- Every run under p is serializable in commit order, from any opening map and by any list of events.
abbrev pub RunsAreSerial : Protocol → Type 0
RunsAreSerial p = (opening : Map) (events : List Event) → IsMap opening → IsSerialRun opening (run p (start opening) events)
