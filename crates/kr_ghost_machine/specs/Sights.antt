-- What an operation comes to that isn't refused.
use Rattle.std.specs.Prelude.{◌≡◌, ℕ, false, Option, Some, None}
use Rattle.kr_model.specs.declared.Op.{Op}
use Rattle.kr_model.specs.declared.Op.TheVariants as op
use Rattle.kr_model.specs.declared.Refusal.TheVariants as refusal
use Rattle.kr_model.specs.declared.Reply.TheVariants as reply
use Rattle.kr_model.specs.Map.{Map}
use Rattle.kr_model.specs.Plan.{requests}
use Rattle.kr_model.specs.State.{Scan, standing}
use Rattle.kr_model.specs.Step.{takes_no_memory}
use Rattle.kr_plan.specs.Modes.{ArePlanModes}
use Rattle.kr_ghost.specs.Protocol.{GhostProtocol}
use Rattle.kr_ghost.specs.State.{GhostState}
use Rattle.kr_ghost.specs.Step.{Outcome, attempted, performed}
use Rattle.kr_ghost_machine.specs.declared.sights.Sight.{Sight}
use Rattle.kr_ghost_machine.specs.declared.sights.Part.{Part}
use Rattle.kr_ghost_machine.specs.declared.sights.Part.TheVariants as part
use Rattle.kr_ghost_machine.specs.Deeds.{effect_of, ghosts_after, IsDeed}

-- The attempt of t that requests and does this.
abbrev pub attempt_of : GhostProtocol → GhostState → ℕ → Sight → Outcome
attempt_of p s t x = attempted p s t (requests x.plan) (effect_of x.deed s.state.map (standing s.state t)) (ghosts_after x.deed s.ghosts)

-- Its requests are of modes, and a scan's look has the value of its name.
pub record IsSight (count : ℕ) (m : Map) (x : Sight) : Type 0 where
  pub modes : ArePlanModes count x.plan
  pub deed : IsDeed m x.deed

-- There is a scan, with this range left.
abbrev pub HasRange : ℕ × ℕ → Option Scan → Type 0
HasRange r None = ⊥
HasRange r (Some c) = (c.lo ≡ r.0) × (c.hi ≡ r.1)

-- The operation o of t comes to this; what requests locks neither ends the transaction nor undoes a change.
abbrev pub IsPart : GhostProtocol → GhostState → ℕ → Op → Part → Type 0
IsPart p s t o (part.Attempt x) = (performed p s t o ≡ attempt_of p s t x) × IsSight p.table.count s.state.map x × (takes_no_memory o ≡ false)
IsPart p s t o part.Commit = o ≡ op.Commit
IsPart p s t o part.Abort = o ≡ op.Abort
IsPart p s t o part.Back = o ≡ op.Back
IsPart p s t o part.NoScan = performed p s t o ≡ (reply.Refused refusal.NoScan, s)
