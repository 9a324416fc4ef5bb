use Rattle.std.proofs.Common.{◌≡◌, ◌∙◌, rules, arith, sym, subst}
use Rattle.kr_decide.specs.declared.pair.Pair.{Pair}
use Rattle.kr_decide.specs.Pairs.{pair_at}
use Rattle.kr_decide.specs.Findings.{MovesByNext}
use Rattle.kr_decide.proofs.Growing.{grows_none, grows_on}
use Rattle.kr_decide.proofs.Following.{above_grown, pair_read, everywhere_none, everywhere_step}
use Rattle.kr_decide.proofs.finding.Found.add_everywhere.Goals as goal

pub add_by_next-requires : goal.add_by_next-requires
add_by_next-requires g c =
    let p = g.P.Protocol.table c.args.protocol.now in
    let i = c.loop-from.invariant.grows in
    record {
      found = i.found;
      spot = record {
        from = omega (arith, i.longer);
        pair = pair_read c.loop-from.self.pairs.items c.loop-from.from c.index-pair.result.now (omega (arith, i.longer)) c.index-pair.ensures;
        above = above_grown p c.args.self.now c.loop-from.self c.args.above i c.requires.above;
      };
    }

pub loop-from-init : goal.loop-from-init
loop-from-init g c =
    let p = g.P.Protocol.table c.args.protocol.now in
    record {
      grows = grows_none p c.args.self.now c.requires.found;
      moves = everywhere_none p c.args.self.now.pairs.items c.args.self.now.pairs.items c.args.above.state;
    }

pub returns-clause-moves : goal.returns-clause-moves
returns-clause-moves g c = λ k below. c.loop-from.invariant.moves k (omega (arith, c.loop-from-test.false))

pub loop-from-preserved : goal.loop-from-preserved
loop-from-preserved g c =
    let p = g.P.Protocol.table c.args.protocol.now in
    let i = c.loop-from.invariant.grows in
    let read : pair_at c.args.self.now.pairs.items c.loop-from.from ≡ c.index-pair.result.now =
    sym (i.kept c.loop-from.from (search rules)) ∙ pair_read c.loop-from.self.pairs.items c.loop-from.from c.index-pair.result.now (search rules) c.index-pair.ensures in
    record {
      grows = grows_on p _ _ _ c.loop-from.invariant.grows c.in_ok-add_by_next.ensures.grows;
      moves = everywhere_step p _ _ c.args.self.now.pairs.items c.loop-from.from c.args.above.state c.in_ok-add_by_next.ensures.grows c.loop-from.invariant.moves
          (subst (λ (q : Pair). MovesByNext p c.add_by_next.new.self.pairs.items q.own q.other c.args.above.state) (sym read) c.in_ok-add_by_next.ensures.moves);
    }
