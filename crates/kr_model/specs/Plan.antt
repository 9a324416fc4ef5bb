-- What an attempt requests: its row of the table, the names that it speaks of, and the requests.
use Rattle.std.specs.Prelude.{ℕ, nat_le, List, ◌++◌, Option, Some, None, if◌then◌else◌, is_some}
use Rattle.std.specs.Option.{option_to_list}
use Rattle.kr_model.specs.declared.Name.{Name}
use Rattle.kr_model.specs.declared.Name.TheVariants.{Key, End}
use Rattle.kr_model.specs.declared.Row.{Row}
use Rattle.kr_model.specs.declared.Row.TheVariants as row
use Rattle.kr_model.specs.declared.Side.TheVariants.{Current, Next}
use Rattle.kr_model.specs.declared.Span.{Span}
use Rattle.kr_model.specs.declared.Step.{Step}
use Rattle.kr_model.specs.declared.Step.TheVariants as attempt
use Rattle.kr_model.specs.declared.Plan.{Plan}
use Rattle.kr_model.specs.Protocol.{Protocol}
use Rattle.kr_model.specs.Map.{Map, get, at, after}
use Rattle.kr_model.specs.Locks.{Locks, Request, own}

-- The row of an attempt, and the names at its two sides, where there are such.
pub record Access : Type 0 where
  pub row : Row
  pub current : Option Name
  pub next : Option Name

-- The access with these parts.
abbrev pub access : Row → Option Name → Option Name → Access
access r c n = record { row = r; current = c; next = n }

-- A scan's step on the name n: a key within the range is read, and any other name stops the scan.
abbrev pub look_access : Name → ℕ → Access
look_access End hi = access row.ScanStop None (Some End)
look_access (Key k) hi = if nat_le k hi then access row.ScanKey (Some (Key k)) None else access row.ScanStop None (Some (Key k))

-- The row and the names of an attempt, by what the index has: an insert of a present key goes by the row fetch hit, a delete or an update of an absent one by fetch miss.
abbrev pub access_of : Map → Step → Access
access_of m (attempt.Fetch k) = if is_some (get m k) then access row.FetchHit (Some (Key k)) None else access row.FetchMiss None (Some (at m k))
access_of m (attempt.Insert k) = if is_some (get m k) then access row.FetchHit (Some (Key k)) None else access row.Insert (Some (Key k)) (Some (at m k))
access_of m (attempt.Delete k) = if is_some (get m k) then access row.Delete (Some (Key k)) (Some (after m k)) else access row.FetchMiss None (Some (at m k))
access_of m (attempt.Update k) = if is_some (get m k) then access row.Update (Some (Key k)) None else access row.FetchMiss None (Some (at m k))
access_of m (attempt.Look n hi) = look_access n hi

-- The own mode that a row hands to `ask`: insert and delete hand that on the next name, before the operation, and the other rows none.
abbrev pub own_next : Locks → ℕ → Row → Option Name → ℕ
own_next h t row.Insert (Some n) = own h t n
own_next h t row.Delete (Some n) = own h t n
own_next h t _ _ = 0

-- The request of a side, where there is a name and something is requested.
abbrev pub side_request : Option Name → Option (ℕ × Span) → Option Request
side_request None asked = None
side_request (Some n) None = None
side_request (Some n) (Some (m, s)) = Some (n, m, s)

-- What t requests by this access.
abbrev pub plan_by : Protocol → Locks → ℕ → Access → Plan
plan_by p h t a =
    let o = own_next h t a.row a.next in
    record { row = a.row; current = side_request a.current (p.ask a.row Current o); next = side_request a.next (p.ask a.row Next o) }

-- What t requests by this attempt.
abbrev pub plan_of : Protocol → Map → Locks → ℕ → Step → Plan
plan_of p m h t a = plan_by p h t (access_of m a)

-- The requests of a plan: that on the current name, then that on the next.
abbrev pub requests : Plan → List Request
requests plan = option_to_list plan.current ++ option_to_list plan.next
