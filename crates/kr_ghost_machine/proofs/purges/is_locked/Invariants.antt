use Rattle.std.proofs.Common.{◌≡◌, ◌<◌, ℕ, get_or}
use Rattle.kr_model.specs.declared.Name.TheVariants.{Key}
use Rattle.kr_model.specs.Locks.{own}
use Rattle.kr_txn.specs.declared.Standing.{Standing}
use Rattle.kr_txn.specs.Standings.{number_of}
use Rattle.kr_ghost_machine.proofs.purges.is_locked.Given as goal

-- None so far has a lock on the key.
abbrev pub invariant-loop-standing : goal.invariant-loop-standing
invariant-loop-standing g l = (j : ℕ) (d : Standing) → j < l.standing-index → own (g.L.Holdings.locks l.locks) (number_of (get_or l.active j d)) (Key l.key) ≡ 0
