use Rattle.kr_explain_causes.proofs.Named.{named_by_first, named_by_other}
use Rattle.kr_explain_causes.proofs.cause.tallies.Goals as goal

-- the reasons of one suspect more are counted
pub loop-number-preserved : goal.loop-number-preserved
loop-number-preserved c =
    let suspects = c.args.suspects.now in
    let low = c.loop-number-test.true in
    c.count_each.ensures suspects (λ b any. named_by_other suspects c.loop-number.number _ b low any) (c.count.ensures suspects (named_by_first suspects c.loop-number.number _ low) c.loop-number.invariant)
