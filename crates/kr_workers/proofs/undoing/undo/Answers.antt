use Rattle.std.proofs.Common.{arith}
use Rattle.kr_workers.proofs.Undone.{undone_more, left_before}
use Rattle.kr_workers.proofs.undoing.undo.Goals as goal

pub loop-end-preserved : goal.loop-end-preserved
loop-end-preserved c = (
  omega (arith, c.in-Some.ensures.begins, c.loop-end.invariant.0),
  undone_more c.in-Some.start c.loop-end.end c.args.events.now c.args.hands.now c.loop-end.hands c.undo_run.new.hands (omega (arith, c.in-Some.ensures.begins)) c.loop-end.invariant.0 c.loop-end.invariant.1 c.in-Some.ensures.taken,
)

pub returns-in-None-clause-not_all : goal.returns-in-None-clause-not_all
returns-in-None-clause-not_all c = λ is all. c.in-None.ensures.others (left_before c.loop-end.end c.args.events.now c.args.hands.now c.loop-end.hands c.loop-end.invariant.1 all _)
