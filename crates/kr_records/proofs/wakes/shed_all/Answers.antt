use Rattle.kr_records.proofs.wakes.shed_all.Goals as goal

pub loop-preserved : goal.loop-preserved
loop-preserved c = record {
  stay = λ blockers txns tied all. c.shed.ensures.stay blockers txns tied (c.loop.invariant.stay blockers txns tied all);
  given = λ w there. c.loop.invariant.given w (c.shed.ensures.given w there);
}

pub returns-clause-stay : goal.returns-clause-stay
returns-clause-stay c = λ blockers txns tied all. c.shed.ensures.stay blockers txns tied (c.loop.invariant.stay blockers txns tied all)

pub returns-clause-given : goal.returns-clause-given
returns-clause-given c = λ w there. c.loop.invariant.given w (c.shed.ensures.given w there)
