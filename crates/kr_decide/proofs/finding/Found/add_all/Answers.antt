use Rattle.std.proofs.Common.{◌≤◌, List, sym, ◌∙◌, ap, arith, refl, subst}
use Rattle.kr_decide.specs.declared.pair.Pair.{Pair}
use Rattle.kr_decide.specs.declared.finding.Above.{Above}
use Rattle.kr_decide.specs.Findings.{AreNexts}
use Rattle.kr_decide.proofs.Growing.{grows_on}
use Rattle.kr_decide.proofs.Following.{all_of, first_above, first_grown, nexts_grown}
use Rattle.kr_decide.proofs.finding.Found.add_all.Goals as goal

pub add-requires : goal.add-requires
add-requires g c =
    let p = g.P.Protocol.table c.args.protocol.now in
    let at = c.requires.pair in
    let found = c.requires.found in
    record {
      found = found;
      way = (c.requires.from, ap (λ (q : Pair). q.other) (sym at), ap (λ (q : Pair). q.own) (sym at));
      own = subst (λ (q : Pair). q.other.mode ≤ p.count) at (found.other c.args.from);
      other = subst (λ (q : Pair). q.own.mode ≤ p.count) at (found.own c.args.from);
    }

pub add-requires-2 : goal.add-requires-2
add-requires-2 g c =
    let p = g.P.Protocol.table c.args.protocol.now in
    let grows = c.in_ok-add.ensures.grows in
    let at = grows.kept c.args.from c.requires.from ∙ c.requires.pair in
    let found = grows.found in
    record {
      found = found;
      way = (omega (arith, grows.longer, c.requires.from), refl, ap (λ (q : Pair). q.other) (sym at));
      own = omega arith;
      other = subst (λ (q : Pair). q.other.mode ≤ p.count) at (found.other c.args.from);
    }

pub add_plain-requires : goal.add_plain-requires
add_plain-requires g c =
    let p = g.P.Protocol.table c.args.protocol.now in
    let grows = grows_on p _ _ _ c.in_ok-add.ensures.grows c.in_ok-add-2.ensures.grows in
    record {
      found = grows.found;
      spot = record {
        from = omega (arith, grows.longer, c.requires.from);
        pair = grows.kept c.args.from c.requires.from ∙ c.requires.pair;
        above = first_above _ (first_grown p _ _ grows c.requires.first);
      };
    }

pub add_nexts-requires : goal.add_nexts-requires
add_nexts-requires g c =
    let p = g.P.Protocol.table c.args.protocol.now in
    let two = grows_on p _ _ _ c.in_ok-add.ensures.grows c.in_ok-add-2.ensures.grows in
    let three = grows_on p _ _ _ two c.in_ok-add_plain.ensures.grows in
    record {
      found = three.found;
      nexts = subst (λ (l : List Above). AreNexts c.add_plain.new.self.pairs.items l) (sym three.nexts) (nexts_grown p _ _ c.args.self.now.nexts.items three c.requires.nexts);
      from = omega (arith, three.longer, c.requires.from);
      pair = three.kept c.args.from c.requires.from ∙ c.requires.pair;
    }

pub returns-clause-grows : goal.returns-clause-grows
returns-clause-grows g c =
    let p = g.P.Protocol.table c.args.protocol.now in
    let two = grows_on p _ _ _ c.in_ok-add.ensures.grows c.in_ok-add-2.ensures.grows in
    let three = grows_on p _ _ _ two c.in_ok-add_plain.ensures.grows in
    grows_on p _ _ _ three c.in_ok-add_nexts.ensures.grows

pub returns-clause-all : goal.returns-clause-all
returns-clause-all g c =
    let p = g.P.Protocol.table c.args.protocol.now in
    let first = c.in_ok-add.ensures.grows in
    let second = c.in_ok-add-2.ensures.grows in
    let third = c.in_ok-add_plain.ensures.grows in
    all_of p c.args.self.now _ _ _ _ c.args.pair.own c.args.pair.other second third c.in_ok-add_nexts.ensures.grows
    (sym (third.nexts ∙ second.nexts ∙ first.nexts)) c.in_ok-add.ensures.has c.in_ok-add-2.ensures.has c.in_ok-add_plain.ensures.moves c.in_ok-add_nexts.ensures.moves
