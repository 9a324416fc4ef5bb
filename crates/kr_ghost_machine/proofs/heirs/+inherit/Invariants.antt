use Rattle.std.proofs.Common.{length}
use Rattle.kr_ghost_machine.proofs.heirs.+inherit.Given as goal

abbrev pub decreases-inherit : goal.decreases-inherit
decreases-inherit g l = length l.heirs.now
