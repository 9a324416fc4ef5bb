use Rattle.std.proofs.Common.{◌≡◌, ◌≤◌, rules, sym, subst, arith}
use Rattle.kr_model.specs.Safe.{Beside}
use Rattle.kr_decide.specs.declared.pair.Pair.{Pair}
use Rattle.kr_decide.specs.Pairs.{pair_at}
use Rattle.kr_decide.specs.Met.{MarksAll}
use Rattle.kr_decide.proofs.Following.{pair_read}
use Rattle.kr_decide.proofs.Complete.{beside_at}
use Rattle.kr_decide.proofs.Marked.{one_pair_more, done_none}
use Rattle.kr_decide.proofs.met.Met.of.Goals as goal

pub add_pair-requires-clause-own : goal.add_pair-requires-clause-own
add_pair-requires-clause-own g c =
    let p = g.P.Protocol.table c.args.protocol.now in
    let pairs = c.args.found.now.pairs.items in
    let found = c.requires.found in
    let read : pair_at pairs c.loop-at.at ≡ c.index.result.now = pair_read pairs c.loop-at.at c.index.result.now (search rules) (search rules) in
    subst (λ (q : Pair). q.own.mode ≤ p.count) read (found.own c.loop-at.at)

pub add_pair-requires-clause-other : goal.add_pair-requires-clause-other
add_pair-requires-clause-other g c =
    let p = g.P.Protocol.table c.args.protocol.now in
    let pairs = c.args.found.now.pairs.items in
    let found = c.requires.found in
    let read : pair_at pairs c.loop-at.at ≡ c.index.result.now = pair_read pairs c.loop-at.at c.index.result.now (search rules) (search rules) in
    subst (λ (q : Pair). q.other.mode ≤ p.count) read (found.other c.loop-at.at)

pub add_pair-requires-clause-beside : goal.add_pair-requires-clause-beside
add_pair-requires-clause-beside g c =
    let p = g.P.Protocol.table c.args.protocol.now in
    let pairs = c.args.found.now.pairs.items in
    let found = c.requires.found in
    let read : pair_at pairs c.loop-at.at ≡ c.index.result.now = pair_read pairs c.loop-at.at c.index.result.now (search rules) (search rules) in
    subst (λ (q : Pair). Beside p q.own q.other) read (beside_at p pairs c.loop-at.at found.derived (search rules))

pub loop-at-preserved : goal.loop-at-preserved
loop-at-preserved g c =
    let p = g.P.Protocol.table c.args.protocol.now in
    let pairs = c.args.found.now.pairs.items in
    let nexts = c.args.found.now.nexts.items in
    let adds = c.add_pair.ensures.adds in
    let read : pair_at pairs c.loop-at.at ≡ c.index.result.now = pair_read pairs c.loop-at.at c.index.result.now (search rules) (search rules) in
    record {
      sound = adds.sound;
      done = c.add_pair.ensures.done;
      marks = one_pair_more p _ _ pairs nexts c.loop-at.at adds c.loop-at.invariant.marks (subst (λ (q : Pair). MarksAll p c.add_pair.new.self nexts q.own q.other) (sym read) c.add_pair.ensures.marks);
    }

pub loop-at-init : goal.loop-at-init
loop-at-init g c =
    let p = g.P.Protocol.table c.args.protocol.now in
    record {
      sound = c.in_ok-met.ensures;
      marks = λ k below. absurd {A = MarksAll p c.in_ok-met.met c.args.found.now.nexts.items (pair_at c.args.found.now.pairs.items k).own (pair_at c.args.found.now.pairs.items k).other} (omega arith);
      done = done_none p c.in_ok-met.met c.args.found.now.nexts.items c.in_ok-done.done.items (let h = c.in_ok-done.ensures in h.items_if_clones_equal (λ y e. e));
    }

pub returns-clause-marks : goal.returns-clause-marks
returns-clause-marks g c = λ k below. c.loop-at.invariant.marks k (omega (arith, c.loop-at-test.false, c.len-at-end.ensures))
