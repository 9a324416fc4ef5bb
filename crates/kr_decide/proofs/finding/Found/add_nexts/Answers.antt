use Rattle.std.proofs.Common.{◌≡◌, ◌∙◌, arith, rules, sym, subst}
use Rattle.kr_decide.specs.declared.finding.Above.{Above}
use Rattle.kr_decide.specs.Findings.{IsAbove, MovesByNext, above_at}
use Rattle.kr_decide.proofs.Growing.{grows_none, grows_on}
use Rattle.kr_decide.proofs.Following.{above_grown, above_read, nexts_none, nexts_step}
use Rattle.kr_decide.proofs.finding.Found.add_nexts.Goals as goal

pub add_by_next-requires : goal.add_by_next-requires
add_by_next-requires g c =
    let p = g.P.Protocol.table c.args.protocol.now in
    let i = c.loop-at.invariant.grows in
    let read : above_at c.args.self.now.nexts.items c.loop-at.at ≡ c.index-above.result.now =
    above_read c.args.self.now.nexts.items c.loop-at.at c.index-above.result.now (search rules) (search (rules, i.nexts)) in
    record {
      found = i.found;
      spot = record {
        from = omega (arith, i.longer);
        pair = i.kept c.args.from c.requires.from ∙ c.requires.pair;
        above = above_grown p c.args.self.now c.loop-at.self c.index-above.result.now i (subst (λ (q : Above). IsAbove c.args.self.now.pairs.items q) read (c.requires.nexts c.loop-at.at (search rules)));
      };
    }

pub loop-at-init : goal.loop-at-init
loop-at-init g c =
    let p = g.P.Protocol.table c.args.protocol.now in
    record {
      grows = grows_none p c.args.self.now c.requires.found;
      moves = nexts_none p c.args.self.now.pairs.items c.args.self.now.nexts.items c.args.pair.own c.args.pair.other;
    }

pub returns-clause-moves : goal.returns-clause-moves
returns-clause-moves g c = λ j below. c.loop-at.invariant.moves j (omega (arith, c.loop-at-test.false, c.len-at-end.ensures))

pub loop-at-preserved : goal.loop-at-preserved
loop-at-preserved g c =
    let p = g.P.Protocol.table c.args.protocol.now in
    let i = c.loop-at.invariant.grows in
    let read : above_at c.args.self.now.nexts.items c.loop-at.at ≡ c.index-above.result.now =
    above_read c.args.self.now.nexts.items c.loop-at.at c.index-above.result.now (search rules) (search (rules, i.nexts)) in
    record {
      grows = grows_on p _ _ _ c.loop-at.invariant.grows c.in_ok-add_by_next.ensures.grows;
      moves = nexts_step p _ _ c.args.self.now.nexts.items c.loop-at.at c.args.pair.own c.args.pair.other c.in_ok-add_by_next.ensures.grows c.loop-at.invariant.moves
          (subst (λ (q : Above). MovesByNext p c.add_by_next.new.self.pairs.items c.args.pair.own c.args.pair.other q.state) (sym read) c.in_ok-add_by_next.ensures.moves);
    }
