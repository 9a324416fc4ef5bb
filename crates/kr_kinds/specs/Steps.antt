-- One step in an index of either kind, and a purge. Where deletes leave no ghosts, a purge changes nothing.
use Rattle.std.specs.Prelude.{◌≢◌, ℕ, Bool, false, ◌&&◌, List}
use Rattle.kr_model.specs.declared.Name.TheVariants.{Key}
use Rattle.kr_model.specs.declared.Op.{Op}
use Rattle.kr_model.specs.declared.Refusal.TheVariants as refusal
use Rattle.kr_model.specs.declared.Reply.TheVariants as reply
use Rattle.kr_model.specs.Step as gone
use Rattle.kr_ghost.specs.Protocol.{inherits}
use Rattle.kr_ghost.specs.State.{GhostState}
use Rattle.kr_ghost.specs.Step as ghost
use Rattle.kr_ghost.specs.Step.{Outcome}
use Rattle.kr_kinds.specs.Kinds.{IndexProtocol, Gone, Leaves, table_of}

-- What comes of a step, beside these ghosts.
abbrev pub beside : List ℕ → gone.Outcome → Outcome
beside ghosts o = (o.0, record { state = o.1; ghosts = ghosts })

-- The step of t by the operation o, where memory is ample.
abbrev pub step : IndexProtocol → GhostState → ℕ → Op → Outcome
step (Gone p) s t o = beside s.ghosts (gone.step p s.state t o)
step (Leaves p) s t o = ghost.step p s t o

-- Whether the step may run out of memory.
abbrev pub may_lack_memory : IndexProtocol → GhostState → ℕ → Op → Bool
may_lack_memory p s t o = gone.may_lack_memory (table_of p) s.state t o

-- No step's reply is that memory is refused.
abbrev pub IsNeverRefusedMemory : IndexProtocol → Type 0
IsNeverRefusedMemory p = (s : GhostState) (t : ℕ) (o : Op) → (step p s t o).0 ≢ reply.Refused refusal.Memory

-- Whether k may be purged.
abbrev pub may_purge : IndexProtocol → GhostState → ℕ → Bool
may_purge (Gone p) s k = false
may_purge (Leaves p) s k = ghost.may_purge p s k

-- The state after a purge of k; where k may not be purged, it stays.
abbrev pub purged : IndexProtocol → GhostState → ℕ → GhostState
purged (Gone p) s k = s
purged (Leaves p) s k = ghost.purged p s k

-- Whether the purge of k may run out of memory: only where k is purged and a lock on it is inherited.
abbrev pub purge_may_lack_memory : IndexProtocol → GhostState → ℕ → Bool
purge_may_lack_memory (Gone p) s k = false
purge_may_lack_memory (Leaves p) s k = ghost.may_purge p s k && inherits p.purges && ghost.is_locked s.state.locks (Key k)
