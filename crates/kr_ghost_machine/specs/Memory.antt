-- When a purge may be refused memory.
use Rattle.std.specs.Prelude.{ℕ, Bool, ◌&&◌}
use Rattle.kr_model.specs.declared.Name.TheVariants.{Key}
use Rattle.kr_ghost.specs.Protocol.{GhostProtocol, inherits}
use Rattle.kr_ghost.specs.State.{GhostState}
use Rattle.kr_ghost.specs.Step.{is_locked, may_purge}

-- Only where the ghost k is purged and a lock on it is inherited: neither a key that stays takes memory, nor a ghost without locks.
abbrev pub purge_may_lack_memory : GhostProtocol → GhostState → ℕ → Bool
purge_may_lack_memory p s k = may_purge p s k && inherits p.purges && is_locked s.state.locks (Key k)
