use Rattle.std.proofs.Common.{arith, refl}
use Rattle.kr_decide.proofs.Openings.{none_in}
use Rattle.kr_decide.proofs.opening.plain_opening.Goals as goal

pub lets_in-requires : goal.lets_in-requires
lets_in-requires g c = record { own = c.requires.own; other = c.requires.other; next = omega arith }

pub lets_in-requires-2 : goal.lets_in-requires-2
lets_in-requires-2 g c = record { own = c.requires.own; other = c.requires.other; next = omega arith }

pub lets_in-requires-3 : goal.lets_in-requires-3
lets_in-requires-3 g c = record { own = c.requires.own; other = c.requires.other; next = omega arith }

pub lets_in-requires-4 : goal.lets_in-requires-4
lets_in-requires-4 g c = record { own = c.requires.own; other = c.requires.other; next = omega arith }

pub lets_in-requires-5 : goal.lets_in-requires-5
lets_in-requires-5 g c = record { own = c.requires.own; other = c.requires.other; next = omega arith }

pub lets_in-requires-6 : goal.lets_in-requires-6
lets_in-requires-6 g c = record { own = c.requires.own; other = c.requires.other; next = omega arith }

pub lets_in-requires-7 : goal.lets_in-requires-7
lets_in-requires-7 g c = record { own = c.requires.own; other = c.requires.other; next = omega arith }

pub returns-then-lets_in-clause-some : goal.returns-then-lets_in-clause-some
returns-then-lets_in-clause-some g c = c.if-lets_in.ensures.0 refl

pub returns-then-lets_in-2-clause-some : goal.returns-then-lets_in-2-clause-some
returns-then-lets_in-2-clause-some g c = c.if-lets_in-2.ensures.0 refl

pub returns-then-lets_in-3-clause-some : goal.returns-then-lets_in-3-clause-some
returns-then-lets_in-3-clause-some g c = c.if-lets_in-3.ensures.0 refl

pub returns-then-lets_in-4-clause-some : goal.returns-then-lets_in-4-clause-some
returns-then-lets_in-4-clause-some g c = c.if-lets_in-4.ensures.0 refl

pub returns-then-lets_in-5-clause-some : goal.returns-then-lets_in-5-clause-some
returns-then-lets_in-5-clause-some g c = c.if-lets_in-5.ensures.0 refl

pub returns-then-lets_in-6-clause-some : goal.returns-then-lets_in-6-clause-some
returns-then-lets_in-6-clause-some g c = c.if-lets_in-6.ensures.0 refl

pub returns-then-lets_in-7-clause-some : goal.returns-then-lets_in-7-clause-some
returns-then-lets_in-7-clause-some g c = c.if-lets_in-7.ensures.0 refl

pub returns-clause-none : goal.returns-clause-none
returns-clause-none g c =
    none_in (g.P.Protocol.table c.args.protocol.now) c.args.own c.args.other c.if-lets_in.ensures c.if-lets_in-2.ensures c.if-lets_in-3.ensures c.if-lets_in-4.ensures c.if-lets_in-5.ensures c.if-lets_in-6.ensures c.if-lets_in-7.ensures
