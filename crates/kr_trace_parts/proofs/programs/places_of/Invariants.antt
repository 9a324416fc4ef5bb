-- the places of the transactions so far, which are the last in commit order
use Rattle.std.specs.Prelude.{◌≡◌, ℕ, drop}
use Rattle.std.specs.BTreeMap.{get}
use Rattle.std.specs.Ordering.{nat_cmp}
use Rattle.kr_trace_parts.proofs.WrongLaws.{place_from}
use Rattle.kr_trace_parts.proofs.programs.places_of.Given as goal

abbrev pub invariant-loop-place : goal.invariant-loop-place
invariant-loop-place l = (t : ℕ) → get nat_cmp l.places t ≡ place_from l.place (drop l.place l.committed) t
