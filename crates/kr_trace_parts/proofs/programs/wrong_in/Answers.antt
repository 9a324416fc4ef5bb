use Rattle.std.specs.Prelude.{◌≡◌, false, is_some, map, slice_index}
use Rattle.std.proofs.Common.{◌∙◌, sym}
use Rattle.kr_trace_parts.specs.Committed.{AreSerial}
use Rattle.kr_trace_parts.specs.Kept.{shown}
use Rattle.kr_trace_parts.specs.Printed.{of_txn}
use Rattle.kr_trace_parts.proofs.WrongLaws.{at_none, found_wrong, next_left, next_serial, next_wrong}
use Rattle.kr_trace_parts.proofs.programs.wrong_in.Goals as goal

pub returns-then-is_some-clause-none : goal.returns-then-is_some-clause-none
returns-then-is_some-clause-none c =
    found_wrong c.differences_are_first.ensures.if_answered c.differences_are_first.ensures.only c.args.opening.now c.args.committed.now c.args.txns.now c.in_ok-wrong.wrong
    (sym c.is_some.ensures ∙ c.if-is_some.true)
    (next_wrong c.args.opening.now c.loop-i.judge.map c.args.committed.now c.args.txns.now c.loop-i.i c.in_ok-wrong.wrong c.loop-i-test.true c.loop-i.invariant.serial c.loop-i.invariant.left c.in_ok-wrong.ensures.wrong)

pub returns-then-is_some-clause-wrong : goal.returns-then-is_some-clause-wrong
returns-then-is_some-clause-wrong c =
    next_wrong c.args.opening.now c.loop-i.judge.map c.args.committed.now c.args.txns.now c.loop-i.i c.in_ok-wrong.wrong c.loop-i-test.true c.loop-i.invariant.serial c.loop-i.invariant.left c.in_ok-wrong.ensures.wrong

pub loop-i-preserved : goal.loop-i-preserved
loop-i-preserved c =
    let cs = map shown c.args.committed.now in
    let t = slice_index c.args.txns.now c.loop-i.i in
    let none : is_some c.in_ok-wrong.wrong ≡ false = sym c.is_some.ensures ∙ c.if-is_some.false in
    record {
      serial = next_serial c.args.opening.now c.loop-i.judge.map cs c.args.txns.now c.loop-i.i c.loop-i-test.true c.loop-i.invariant.serial c.loop-i.invariant.left
          (at_none c.in_ok-wrong.wrong (AreSerial c.loop-i.judge.map (of_txn cs t)) none c.in_ok-wrong.ensures.none);
      left = next_left c.args.opening.now c.loop-i.judge.map c.judge_next.new.judge.map cs c.args.txns.now c.loop-i.i c.loop-i-test.true c.loop-i.invariant.left c.in_ok-wrong.ensures.left;
    }
