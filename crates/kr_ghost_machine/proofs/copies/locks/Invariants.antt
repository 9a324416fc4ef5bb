use Rattle.std.proofs.Common.{◌≡◌, [], drop}
use Rattle.kr_ghost_machine.proofs.Copied.{all_kept}
use Rattle.kr_ghost_machine.proofs.copies.locks.Given as goal

-- Those so far, and those that are left kept one after another, are all.
abbrev pub invariant-loop-name : goal.invariant-loop-name
invariant-loop-name g l = all_kept l.copy (drop l.name-index l.name-items) ≡ all_kept [] l.name-items
