use Rattle.std.proofs.Common.{◌≡◌, ◌+◌, suc, sym, ◌∙◌, ap, arith}
use Rattle.kr_model.specs.Difference.{same_reply}
use Rattle.kr_model.specs.Serial.{whole}
use Rattle.kr_model.proofs.SerialLaws.{reply_same}
use Rattle.kr_trace_follow.specs.Given.{difference_in, map_after}
use Rattle.kr_trace_follow.proofs.GivenLaws.{judged_more, left_more}
use Rattle.kr_trace_follow.proofs.judge.judge_program.Goals as goal

pub follow-requires-clause-given : goal.follow-requires-clause-given
follow-requires-clause-given c =
    let serial = (whole c.loop-i.map.entries c.index-program-i.result.0).0 in
    ap (λ r. same_reply r serial) c.in_ok-serial.ensures ∙ reply_same serial

pub loop-i-preserved : goal.loop-i-preserved
loop-i-preserved c =
    let m = c.loop-i.map.entries in
    let i = c.loop-i.i in
    let xs = c.args.program.now in
    let y = c.index-program-i.result in
    let next : i + 1 ≡ suc i = omega arith in
    record {
      is_map = c.in_ok-follow.ensures.is_map;
      differs = judged_more m c.follow.new.map.entries i xs y c.loop-i-test.true (sym c.index-program-i.is) c.in_ok-follow.ensures.map (i + 1) next c.loop-i.first c.or_later-first.result c.difference_at.result (difference_in c.args.map.now.entries 1 xs)
          c.in_ok-serial.serial c.in_ok-serial.ensures c.difference_at.ensures c.or_later-first.ensures c.loop-i.invariant.differs;
      left = left_more m c.follow.new.map.entries i xs y c.loop-i-test.true (sym c.index-program-i.is) c.in_ok-follow.ensures.map (i + 1) next (map_after c.args.map.now.entries xs) c.loop-i.invariant.left;
    }
