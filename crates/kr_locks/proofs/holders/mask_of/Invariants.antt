use Rattle.kr_locks.proofs.Masks.{HasFirst}
use Rattle.kr_locks.proofs.holders.mask_of.Given as goal

-- the mask has the modes of the holders so far
abbrev pub invariant-loop-mode : goal.invariant-loop-mode
invariant-loop-mode l = HasFirst l.mask l.holders l.mode-index
