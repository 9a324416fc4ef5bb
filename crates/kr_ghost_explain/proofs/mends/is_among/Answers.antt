use Rattle.kr_ghost_explain.proofs.mends.is_among.Goals as goal

pub returns : goal.returns
returns c = (λ t. record { some = c.has_same.ensures.0 t }, λ a. c.has_same.ensures.1 a.some)
