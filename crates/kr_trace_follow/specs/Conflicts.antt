-- The held locks that conflict with a step, and those who wait ahead of it.
use Rattle.std.specs.Prelude.{ℕ, Bool, not, ◌&&◌, ◌==◌, if◌then◌else◌, List, [], Option, Some, None, map, filter}
use Rattle.std.specs.List.{flat_map}
use Rattle.std.specs.Ordering.{eq_by_cmp}
use Rattle.kr_model.specs.declared.Step.{Step}
use Rattle.kr_model.specs.Covers.{is_empty}
use Rattle.kr_model.specs.Protocol.{Protocol}
use Rattle.kr_model.specs.Map.{Map}
use Rattle.kr_model.specs.Locks.{Locks, Lock, Request, name_cmp, name_locked, holder_of, mode_held, name_asked, mode_asked, own}
use Rattle.kr_model.specs.Plan.{plan_of, requests}
use Rattle.kr_model.specs.State.{standing}
use Rattle.kr_touch.specs.Attempts.{attempt_of}
use Rattle.kr_trace_lines.specs.declared.deviation.Conflict.{Conflict}
use Rattle.kr_trace_follow.specs.Lines.{Attempt}
use Rattle.kr_trace_follow.specs.Since.{Since}
use Rattle.kr_trace_follow.specs.declared.conflict.Tested.{Tested}

-- Requests --

-- A request of t with the mode that t holds on the name, and the converted mode in which it is tested.
abbrev pub tested_by : Protocol → Locks → ℕ → Request → Tested
tested_by p h t r = let held = own h t (name_asked r) in record { txn = t; name = name_asked r; own = held; asked = mode_asked r; tested = p.convert held (mode_asked r) }

-- What t requests by what it attempts, if it attempts anything.
abbrev pub requests_by : Protocol → Map → Locks → ℕ → Option Step → List Request
requests_by p m h t None = []
requests_by p m h t (Some a) = requests (plan_of p m h t a)

-- The requests of a step of t, that on the current name and then that on the next.
abbrev pub tests_of : Protocol → ℕ → Attempt → List Tested
tests_of p t a =
    let s = a.before in
    map (tested_by p s.locks t) (requests_by p s.map s.locks t (attempt_of s.map (standing s t).scan a.op))

-- Conflicts --

-- Whether a lock conflicts with a request: it is another transaction's on the name, and isn't compatible with the converted mode.
abbrev pub is_in_the_way : Protocol → Tested → Lock → Bool
is_in_the_way p q l = eq_by_cmp name_cmp (name_locked l) q.name && (not (holder_of l == q.txn) && not (p.ok q.tested (mode_held l)))

-- Those of the locks that conflict with a request.
abbrev pub in_the_way : Protocol → Locks → Tested → Locks
in_the_way p h q = filter (is_in_the_way p q) h

-- A lock with the line since which it is held, the mode that is requested and the converted mode in which that is tested.
abbrev pub conflict : Since → Tested → Lock → Conflict
conflict since q l = record {
  name = name_locked l;
  holder = holder_of l;
  held = mode_held l;
  since = since (holder_of l) (name_locked l);
  asked = q.asked;
  tested = q.tested;
}

-- Those of the held locks that conflict with a request.
abbrev pub conflicts_with : Protocol → Since → Locks → Tested → List Conflict
conflicts_with p since h q = map (conflict since q) (in_the_way p h q)

-- The held locks that conflict with a step of t: those that conflict with its request on the current name, then those with that on the next.
abbrev pub conflicts_of : Protocol → Since → ℕ → Attempt → List Conflict
conflicts_of p since t a = let s = a.before in flat_map (conflicts_with p since s.locks) (tests_of p t a)

-- Those who wait --

-- A request that waits, as the lock that it waits for.
abbrev pub wanted : Tested → Lock
wanted q = ((q.name, q.txn), q.tested)

-- Those who wait for a lock that conflicts with a request.
abbrev pub waits_for_conflicts : Protocol → Locks → Tested → List ℕ
waits_for_conflicts p waiting q = map holder_of (in_the_way p waiting q)

-- Those who wait ahead of a request. Nobody waits ahead of a transaction that holds the lock in the converted mode already.
abbrev pub waits_ahead : Protocol → Locks → Tested → List ℕ
waits_ahead p waiting q = if q.tested == q.own then [] else waits_for_conflicts p waiting q

-- Those who wait ahead of a step of t: ahead of its request on the current name, then ahead of that on the next.
abbrev pub ahead_of : Protocol → Locks → ℕ → Attempt → List ℕ
ahead_of p waiting t a = flat_map (waits_ahead p waiting) (tests_of p t a)

-- Whether somebody waits ahead of a step of t.
abbrev pub is_behind : Protocol → Locks → ℕ → Attempt → Bool
is_behind p waiting t a = not (is_empty (ahead_of p waiting t a))
