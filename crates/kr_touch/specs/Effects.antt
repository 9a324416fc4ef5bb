-- What a granted operation answers, and what it does to the index and to its transaction.
use Rattle.std.specs.Prelude.{ℕ, List, [], ◌∷◌, true, Option, Some, None}
use Rattle.kr_model.specs.Map.{Map, Changes, get, restore, restore_all}
use Rattle.kr_model.specs.State.{Active, Scan, idle}
use Rattle.kr_model.specs.Step.{Effect, effect, fetched, inserted, deleted, updated, looked, name_to_look}
use Rattle.kr_model.specs.declared.Op.{Op}
use Rattle.kr_model.specs.declared.Op.TheVariants as op
use Rattle.kr_model.specs.declared.Reply.{Reply}
use Rattle.kr_model.specs.declared.Reply.TheVariants as reply
use Rattle.kr_model.specs.declared.Step.{Step}
use Rattle.kr_model.specs.declared.Step.TheVariants as attempt
use Rattle.kr_touch.specs.Attempts.{begun}
use Rattle.kr_touch.specs.declared.parts.Ending.{Ending}
use Rattle.kr_touch.specs.declared.parts.Ending.TheVariants as ending

-- The rows of the scan in progress, if there is one.
abbrev pub rows_of : Option Scan → List (ℕ × ℕ)
rows_of None = []
rows_of (Some c) = c.rows

-- What a granted attempt answers, that of a scan's step by the rows that the scan has. The value that an operation writes doesn't matter.
abbrev pub reply_of : Map → List (ℕ × ℕ) → Step → Reply
reply_of m rows (attempt.Fetch k) = (fetched m idle (get m k)).reply
reply_of m rows (attempt.Insert k) = (inserted m idle k 0 (get m k)).reply
reply_of m rows (attempt.Delete k) = (deleted m idle k (get m k)).reply
reply_of m rows (attempt.Update k) = (updated m idle k 0 (get m k)).reply
reply_of m rows (attempt.Look n hi) = (looked m idle (record { lo = 0; hi = hi; rows = rows }) n).reply

-- What a granted step of a scan does, where there is a scan.
abbrev pub look_effect : Map → Active → Option Scan → Effect
look_effect m a None = effect reply.None m a
look_effect m a (Some c) = looked m a c (name_to_look m c)

-- What a granted operation does to the index and to its transaction, who stands as a says.
abbrev pub effect_of : Map → Active → Op → Effect
effect_of m a (op.Fetch k) = fetched m a (get m k)
effect_of m a (op.Insert k v) = inserted m a k v (get m k)
effect_of m a (op.Delete k) = deleted m a k (get m k)
effect_of m a (op.Update k v) = updated m a k v (get m k)
effect_of m a (op.Scan lo hi) = look_effect m a (Some (begun lo hi))
effect_of m a op.Go = look_effect m a a.scan
effect_of m a _ = effect reply.None m a

-- The index after the end of a transaction that has made these changes.
abbrev pub map_at_end : Map → Changes → Ending → Map
map_at_end m cs ending.Commit = m
map_at_end m cs ending.Abort = restore_all m cs

-- The index with the newest of these changes undone.
abbrev pub map_back : Map → Changes → Map
map_back m [] = m
map_back m (c ∷ cs) = restore m c.0 c.1

-- The changes without the newest.
abbrev pub changes_back : Changes → Changes
changes_back [] = []
changes_back (c ∷ cs) = cs

-- A transaction after its newest change was undone.
abbrev pub standing_back : Active → Active
standing_back a = record { scan = None; changes = changes_back a.changes; rolling = true }
