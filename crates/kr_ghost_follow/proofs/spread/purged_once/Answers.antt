use Rattle.kr_ghost_follow.proofs.spread.purged_once.Goals as goal

pub loop-i-preserved : goal.loop-i-preserved
loop-i-preserved g c q opening lines h = c.in_ok-push_if_any.ensures q opening lines (c.loop-i.invariant q opening lines h) (c.in_ok-purged.ensures q opening lines h)
