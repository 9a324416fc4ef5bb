use Rattle.kr_ghost_explain.proofs.mends.are_mended.Goals as goal

pub returns-then-none_is_among : goal.returns-then-none_is_among
returns-then-none_is_among c = λ t. record { mended = c.none_is_among.ensures c.if-none_is_among.true; no_other = c.each_is_among.ensures t }
