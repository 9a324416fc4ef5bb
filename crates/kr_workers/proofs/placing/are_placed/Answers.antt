use Rattle.std.proofs.Common.{◌∙◌, refl, sym, subst, map}
use Rattle.std.specs.Prelude.{All}
use Rattle.std.proofs.lemmas.List.{take_all}
use Rattle.kr_workers.specs.Counts.{missed_before}
use Rattle.kr_workers.specs.Placed.{IsBetween}
use Rattle.kr_workers.proofs.Counts.{placed_more, placed_at, starts_before, not_both}
use Rattle.kr_workers.proofs.placing.are_placed.Goals as goal

pub loop-i-preserved : goal.loop-i-preserved
loop-i-preserved c = record {
  start = λ _. starts_before (map (λ x. x.fault.txn) c.args.left_out.now) c.loop-i.i c.start_of-first.result c.start_of-first.ensures;
  placed = λ rising.
      placed_more c.args.events.now c.args.left_out.now c.loop-i.i c.start_of-first.result c.index-left_out-i.result c.loop-i-test.true c.index-left_out-i.is c.start_of-first.ensures
      (c.is_between.ensures.0 c.if-not-is_between.false) rising (c.loop-i.invariant.placed rising);
}

pub returns-then-not-is_between : goal.returns-then-not-is_between
returns-then-not-is_between c = λ rising. (
  λ yes. absurd (not_both _ yes refl),
  λ all.
      sym c.if-not-is_between.true
      ∙ c.is_between.ensures.1 (placed_at c.args.events.now c.args.left_out.now c.loop-i.i c.start_of-first.result c.index-left_out-i.result c.loop-i-test.true c.index-left_out-i.is c.start_of-first.ensures rising all),
)

pub returns : goal.returns
returns c = λ rising. (
  λ _.
      subst (All (λ x. IsBetween c.args.events.now (missed_before (map (λ y. y.fault) c.args.left_out.now) x.fault.txn x.fault.step) x)) (take_all c.loop-i.i c.args.left_out.now c.loop-i-test.false) (c.loop-i.invariant.placed rising),
  λ _. refl,
)
