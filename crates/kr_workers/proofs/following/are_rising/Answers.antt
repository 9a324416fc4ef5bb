use Rattle.std.proofs.Common.{◌∙◌, sym, arith}
use Rattle.kr_workers.proofs.FaultPlaces.{rising_more, not_rising}
use Rattle.kr_workers.proofs.following.are_rising.Goals as goal

pub returns-then-not-is_before : goal.returns-then-not-is_before
returns-then-not-is_before c = (
  λ no. absurd (cc),
  not_rising c.args.faults.now c.loop-i.i c.index-faults-i.result c.index-faults-i-in-loop-i.result (omega arith) (omega arith)
      c.index-faults-i.is c.index-faults-i-in-loop-i.is (sym c.is_before.ensures ∙ c.if-not-is_before.true),
)

pub loop-i-preserved : goal.loop-i-preserved
loop-i-preserved c =
    rising_more c.args.faults.now c.loop-i.i c.index-faults-i.result c.index-faults-i-in-loop-i.result (omega arith) (omega arith)
    c.index-faults-i.is c.index-faults-i-in-loop-i.is (sym c.is_before.ensures ∙ c.if-not-is_before.false) c.loop-i.invariant
