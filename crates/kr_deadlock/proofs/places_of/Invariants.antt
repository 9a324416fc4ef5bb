use Rattle.std.proofs.Common.{ℕ, drop}
use Rattle.std.specs.Ordering.{nat_cmp}
use Rattle.std.specs.BTreeMap.{get}
use Rattle.kr_deadlock.specs.Waits.{blockers_of}
use Rattle.kr_deadlock.specs.Search.{HasPlace}
use Rattle.kr_deadlock.proofs.places_of.Given as goal

abbrev pub invariant-loop-place : goal.invariant-loop-place
invariant-loop-place l = (t : ℕ) → HasPlace l.waits (blockers_of (drop l.place l.waits) t) (get nat_cmp l.places t)
