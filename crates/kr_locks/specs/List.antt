-- Where locks stand in the sorted list, and which of them conflict with a mode.
use Rattle.std.specs.Prelude.{◌≡◌, ℕ, ◌<◌, ◌≤◌, Bool, not, ◌&&◌, ◌==◌, filter, length}
use Rattle.std.specs.List.{HoldsAt}
use Rattle.std.specs.List.Sorted.{IsPartitionPoint}
use Rattle.std.specs.Ordering.{eq_by_cmp}
use Rattle.std.specs.declared.cmp.Ordering.TheVariants.{Less, Equal, Greater}
use Rattle.kr_model.specs.declared.Name.{Name}
use Rattle.kr_model.specs.Protocol.{Protocol}
use Rattle.kr_model.specs.Locks.{Lock, Locks, Holder, name_locked, holder_of, mode_held, name_cmp, holder_cmp}

-- the lock of holder k stands at place i
abbrev pub IsPlaceOf : Locks → Holder → ℕ → Type 0
IsPlaceOf h k i = (i < length h) × HoldsAt (λ l. holder_cmp l.0 k ≡ Equal) h i

-- no lock is that of holder k: those before place i are below it, and the others above
abbrev pub IsGapFor : Locks → Holder → ℕ → Type 0
IsGapFor h k i = (i ≤ length h) × IsPartitionPoint (λ l. holder_cmp l.0 k ≡ Less) (λ l. holder_cmp l.0 k ≡ Greater) h i

-- the locks on a name
abbrev pub locks_on : Locks → Name → Locks
locks_on h n = filter (λ l. eq_by_cmp name_cmp (name_locked l) n) h

-- whether a lock is that of another than t, and mode m conflicts with it
abbrev pub lock_conflicts : Protocol → ℕ → ℕ → Lock → Bool
lock_conflicts p t m l = not (holder_of l == t) && not (p.ok m (mode_held l))
