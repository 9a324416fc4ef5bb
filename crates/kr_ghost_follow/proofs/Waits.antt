-- Laws of the locks that are waited for.
use Rattle.std.specs.Prelude.{◌≡◌, ℕ, List, ◌++◌, refl}
use Rattle.std.proofs.Common.{append-nil}
use Rattle.kr_model.specs.declared.Op.{Op}
use Rattle.kr_model.specs.Locks.{Locks, release}
use Rattle.kr_ghost.specs.Protocol.{GhostProtocol}
use Rattle.kr_ghost.specs.State.{GhostState}
use Rattle.kr_trace_lines.specs.declared.observed.Observed.{Observed}
use Rattle.kr_trace_lines.specs.declared.observed.Observed.TheVariants as observed
use Rattle.kr_ghost_follow.specs.Points.{waited_for}

-- Who isn't blocked waits for nothing.
pub waits_no_more : (p : GhostProtocol) (w : Locks) (t : ℕ) (s : GhostState) (o : Op) (a : Observed) → ((named : List ℕ) → a ≡ observed.Blocked named → ⊥) → release w t ++ waited_for p t s o a ≡ release w t
waits_no_more p w t s o (observed.Blocked named) h = absurd (h named refl)
waits_no_more p w t s o _ h = append-nil (release w t)
