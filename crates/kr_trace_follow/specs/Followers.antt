-- What contracts see of a follower, and what always holds of it.
use Rattle.std.specs.Prelude.{◌≡◌, ◌≤◌, ℕ, Bool, false, Option, None, List, All}
use Rattle.std.specs.BTreeMap.{BTreeMap}
use Rattle.std.specs.Global.{Vec}
use Rattle.kr_model.specs.declared.Event.{Event}
use Rattle.kr_model.specs.declared.Name.{Name}
use Rattle.kr_model.specs.Protocol.{Protocol}
use Rattle.kr_model.specs.Locks.{Locks, mode_held}
use Rattle.kr_model.specs.State.{State}
use Rattle.kr_model.specs.WellFormed.{IsState}
use Rattle.kr_trace_lines.specs.declared.deviation.Deviation.{Deviation}
use Rattle.kr_trace_follow.specs.Following.{Following}
use Rattle.kr_trace_follow.specs.Scans.{AreNoted}
use Rattle.kr_trace_follow.specs.Since.{IsSince, last_noted, lines_of}
use Rattle.kr_trace_follow.specs.declared.scans.Progress.{Progress}

-- How far a follower has followed lines, by its parts.
abbrev pub shown : State → BTreeMap ℕ (Vec (Name × ℕ)) → Locks → ℕ → Option Deviation → Following
shown s notes waiting queued found = record {
  at = record { state = s; since = lines_of s.locks (last_noted notes); waiting = waiting; queued = queued };
  found = found;
}

-- The table of what does the steps is p; no step is pending; the state is well formed; and unless it was given up the scans in progress are noted, modes are waited for, and no line is noted where no lock is held.
pub record IsFollower (p own : Protocol) (pending : Option Event) (s : State) (scans : List Progress) (notes : BTreeMap ℕ (Vec (Name × ℕ))) (waiting : Locks) (lost : Bool) : Type 0 where
  pub same : own ≡ p
  pub at_rest : pending ≡ None
  pub well_formed : IsState p s
  pub noted : lost ≡ false → AreNoted s scans
  pub since : lost ≡ false → IsSince s.locks (last_noted notes)
  pub modes : lost ≡ false → All (λ l. mode_held l ≤ p.count) waiting
