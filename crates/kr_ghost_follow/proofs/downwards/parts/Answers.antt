use Rattle.std.proofs.Common.{◌∙◌, ap, arith, ◌-◌, ◌<◌}
use Rattle.kr_ghost_follow.specs.Points.{upper_end}
use Rattle.kr_ghost_follow.proofs.DownwardLaws.{part_ends, part_more}
use Rattle.kr_ghost_follow.proofs.downwards.parts.Goals as goal

pub returns-then-end-hi : goal.returns-then-end-hi
returns-then-end-hi g c =
    let n = c.args.hi - c.args.lo in
    let below : c.loop.counter < n = omega (arith, c.loop-test.true, c.saturating_sub-end.ensures) in
    part_ends c.args.stepper.now.state c.loop.from c.args.hi n c.loop.counter c.upper_end-end.result c.loop.list.items c.push.new.self.items below
    (c.upper_end-end.ensures.end ∙ ap (λ m. upper_end m c.args.hi) c.name_from.ensures) c.if-end-hi.true c.in_ok-push.ensures.items
    ∙ c.loop.invariant

pub loop-preserved : goal.loop-preserved
loop-preserved g c =
    let n = c.args.hi - c.args.lo in
    let below : c.loop.counter < n = omega (arith, c.loop-test.true, c.saturating_sub-end.ensures) in
    part_more c.args.stepper.now.state c.loop.from c.args.hi n c.loop.counter c.upper_end-end.result _ c.loop.list.items c.push.new.self.items below
    (c.upper_end-end.ensures.end ∙ ap (λ m. upper_end m c.args.hi) c.name_from.ensures) c.if-end-hi.false (omega arith) c.in_ok-push.ensures.items
    ∙ c.loop.invariant
