use Rattle.std.proofs.Common.{◌≡◌, ◌≤◌, rules, true, arith, sym, subst}
use Rattle.kr_model.specs.declared.LockState.{LockState}
use Rattle.kr_model.specs.declared.Side.TheVariants.{Current}
use Rattle.kr_model.specs.Safe.{free, Beside}
use Rattle.kr_decide.specs.declared.finding.Above.{Above}
use Rattle.kr_decide.specs.Findings.{above_at}
use Rattle.kr_decide.specs.Met.{MarksAt}
use Rattle.kr_decide.proofs.Following.{above_read}
use Rattle.kr_decide.proofs.Complete.{above_alone}
use Rattle.kr_decide.proofs.Marked.{adds_on, one_next_more}
use Rattle.kr_decide.proofs.met.Met.add_nexts.Goals as goal

pub add_request-requires : goal.add_request-requires
add_request-requires g c =
    let p = g.P.Protocol.table c.args.protocol.now in
    let going = c.requires.going in
    let found = going.found in
    let nexts = c.args.found.now.nexts.items in
    let read : above_at nexts c.loop-at.at ≡ c.index.result.now = above_read nexts c.loop-at.at c.index.result.now (search rules) (search rules) in
    let is = going.nexts c.loop-at.at (search rules) in
    record {
      sound = c.loop-at.invariant.adds.sound;
      own = c.requires.own;
      other = c.requires.other;
      next = subst (λ (q : Above). q.state.mode ≤ p.count) read (subst (λ (x : LockState). x.mode ≤ p.count) is.state (found.own (above_at nexts c.loop-at.at).place));
      beside = c.requires.beside;
      alone = subst (λ (q : Above). Beside p q.state free) read (above_alone p c.args.found.now.pairs.items (above_at nexts c.loop-at.at) found.derived is);
    }

pub loop-at-preserved : goal.loop-at-preserved
loop-at-preserved g c =
    let p = g.P.Protocol.table c.args.protocol.now in
    let nexts = c.args.found.now.nexts.items in
    let read : above_at nexts c.loop-at.at ≡ c.index.result.now = above_read nexts c.loop-at.at c.index.result.now (search rules) (search rules) in
    record {
      adds = adds_on p _ _ _ c.loop-at.invariant.adds c.add_request.ensures.adds;
      marks = one_next_more p _ _ nexts c.loop-at.at c.args.row c.args.own c.args.other c.add_request.ensures.adds c.loop-at.invariant.marks
          (subst (λ (q : Above). MarksAt p c.add_request.new.self c.args.row Current c.args.own c.args.other q.state) (sym read) c.add_request.ensures.marks);
    }

pub may_beside-requires : goal.may_beside-requires
may_beside-requires g c = c.requires.other

pub loop-at-init : goal.loop-at-init
loop-at-init g c = record {
  adds = record { sound = c.requires.sound; tested = λ a h e. e; asked = λ h m e. e };
  marks = λ j below asks beside m span e. absurd (omega arith);
}

pub returns-then-not-may_beside-clause-marks : goal.returns-then-not-may_beside-clause-marks
returns-then-not-may_beside-clause-marks g c = λ j below asks beside m span e. let yes : c.may_beside.result ≡ true = c.may_beside.ensures.1 beside in absurd cc

pub returns : goal.returns
returns g c = record {
  adds = c.loop-at.invariant.adds;
  marks = λ j below. c.loop-at.invariant.marks j (omega (arith, c.loop-at-test.false, c.len-at-end.ensures));
}
