use Rattle.std.proofs.Common.{length}
use Rattle.kr_ghost_explain_text.proofs.text.+blocks.Given as goal

abbrev pub decreases-blocks : goal.decreases-blocks
decreases-blocks g l = length l.causes.now
