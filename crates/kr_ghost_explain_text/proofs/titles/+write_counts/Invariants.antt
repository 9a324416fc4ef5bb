use Rattle.std.proofs.Common.{length}
use Rattle.kr_ghost_explain_text.proofs.titles.+write_counts.Given as goal

abbrev pub decreases-write_counts : goal.decreases-write_counts
decreases-write_counts l = length l.groups.now
