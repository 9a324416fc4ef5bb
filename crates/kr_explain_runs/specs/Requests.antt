-- Who takes a step, what it requests, and whether that is the request of a case.
use Rattle.std.specs.Prelude.{◌≡◌, ◌⊎◌, ℕ, List, Option, Some, None, option_map, slice_get}
use Rattle.kr_model.specs.declared.Event.{Event}
use Rattle.kr_model.specs.declared.Name.{Name}
use Rattle.kr_model.specs.declared.Op.{Op}
use Rattle.kr_model.specs.declared.Op.TheVariants as op
use Rattle.kr_model.specs.declared.Origin.{Origin}
use Rattle.kr_model.specs.declared.Origin.TheVariants as origin
use Rattle.kr_model.specs.declared.Row.TheVariants as row
use Rattle.kr_model.specs.declared.Rule.{Rule}
use Rattle.kr_model.specs.declared.Rule.TheVariants as rule
use Rattle.kr_model.specs.declared.Side.{Side}
use Rattle.kr_model.specs.declared.Side.TheVariants.{Current, Next}
use Rattle.kr_model.specs.declared.Span.{Span}
use Rattle.kr_model.specs.declared.Span.TheVariants.{Commit}
use Rattle.kr_model.specs.declared.Step.{Step}
use Rattle.kr_model.specs.declared.Step.TheVariants as attempt
use Rattle.kr_model.specs.Protocol.{Protocol}
use Rattle.kr_model.specs.Map.{Map, at}
use Rattle.kr_model.specs.Covers.{Ask}
use Rattle.kr_model.specs.Locks.{Locks, own}
use Rattle.kr_model.specs.Plan.{Access, access_of, own_next}

-- Steps --

-- Who takes the step at this place, from 0, where the script has one.
abbrev pub txn_at : List Event → ℕ → Option ℕ
txn_at events place = option_map (λ e. e.txn) (slice_get events place)

-- What an operation attempts in this index, if it requests locks: a scan looks at its first name.
abbrev pub attempt_of : Map → Op → Option Step
attempt_of m (op.Fetch k) = Some (attempt.Fetch k)
attempt_of m (op.Scan lo hi) = Some (attempt.Look (at m lo) hi)
attempt_of m (op.Insert k v) = Some (attempt.Insert k)
attempt_of m (op.Delete k) = Some (attempt.Delete k)
attempt_of m (op.Update k v) = Some (attempt.Update k)
attempt_of m op.Go = None
attempt_of m op.Commit = None
attempt_of m op.Abort = None
attempt_of m op.Back = None

-- The row and the names of an operation in this index.
abbrev pub access_in : Map → Op → Option Access
access_in m o = option_map (access_of m) (attempt_of m o)

-- The name at a side.
abbrev pub name_at : Side → Access → Option Name
name_at Current a = a.current
name_at Next a = a.next

-- One of the names is this one.
abbrev pub IsOn : Name → Access → Type 0
IsOn n a = (a.current ≡ Some n) ⊎ (a.next ≡ Some n)

-- The lock of a case --

-- The row and the side at which a case of this rule takes its lock; what a conversion requests may be of any row.
abbrev pub taken_at : Rule → Option Ask
taken_at rule.Conversion = None
taken_at rule.FetchHit = Some (row.FetchHit, Current)
taken_at rule.FetchMiss = Some (row.FetchMiss, Next)
taken_at rule.ScanKey = Some (row.ScanKey, Current)
taken_at rule.ScanStop = Some (row.ScanStop, Next)
taken_at rule.Insert = Some (row.Insert, Current)
taken_at rule.Split = Some (row.Insert, Current)
taken_at rule.Delete = Some (row.Delete, Next)
taken_at rule.Update = Some (row.Update, Current)

-- The request is made at the row and the side at which a case of this rule takes its lock.
abbrev pub IsMadeAt : Rule → Side → Access → Type 0
IsMadeAt r s a = taken_at r ≡ Some (a.row, s)

-- What t asks for at a side.
abbrev pub asked_at : Protocol → Locks → ℕ → Side → Access → Option (ℕ × Span)
asked_at p h t s a = p.ask a.row s (own_next h t a.row a.next)

-- Where t has the locks h, its request at this side, on the name n, is the one that a case is about: t has the modes that the case is taken at,
-- and the request is made where the case takes its lock, or, of a conversion, it is for the mode that is asked, until commit.
abbrev pub IsRequestOf : Protocol → Rule → Origin → Locks → ℕ → Name → Side → Access → Type 0
IsRequestOf p r (origin.Own o) h t n s a = (own h t n ≡ o) × IsMadeAt r s a
IsRequestOf p r (origin.Conversion held asked) h t n s a = (own h t n ≡ held) × (asked_at p h t s a ≡ Some (asked, Commit))
IsRequestOf p r (origin.Insert next o) h t n s a = (own h t n ≡ o) × (own_next h t a.row a.next ≡ next) × IsMadeAt r s a
