use Rattle.std.proofs.Common.{◌≡◌, ◌∙◌, List, ap, arith, refl, subst}
use Rattle.kr_decide.specs.declared.pair.Pair.{Pair}
use Rattle.kr_decide.specs.declared.finding.Above.{Above}
use Rattle.kr_decide.specs.Pairs.{pair_at}
use Rattle.kr_decide.specs.Findings.{IsAbove, HasNext}
use Rattle.kr_decide.proofs.Following.{going_same, going_next, pair_read}
use Rattle.kr_decide.proofs.finding.Found.follow.Goals as goal

pub returns-in_ok-push-clause-going : goal.returns-in_ok-push-clause-going
returns-in_ok-push-clause-going g c =
    let p = g.P.Protocol.table c.args.protocol.now in
    let all = c.in_ok-add_all.ensures in
    let grows = all.grows in
    let read : pair_at c.args.self.now.pairs.items c.args.at ≡ c.index-pair.result.now = pair_read c.args.self.now.pairs.items c.args.at c.index-pair.result.now c.requires.at c.index-pair.ensures in
    let new : pair_at c.add_all.new.self.pairs.items c.args.at ≡ c.index-pair.result.now = grows.kept c.args.at c.requires.at ∙ read in
    let above : IsAbove c.add_all.new.self.pairs.items (record { place = c.args.at; state = c.index-pair.result.now.own }) = record {
      within = omega (arith, grows.longer);
      state = ap (λ (q : Pair). q.own) new;
      alone = ap (λ (q : Pair). q.other) new ∙ c.if-is_next.ensures.alone refl;
    } in
    going_next p c.args.self.now _ _ _ c.args.at c.index-pair.result.now (record { place = c.args.at; state = c.index-pair.result.now.own }) c.requires.going c.requires.at read grows c.in_ok-add_everywhere.ensures.grows
    all.all c.in_ok-add_everywhere.ensures.moves above refl refl refl c.in_ok-push.ensures.items

pub returns-else-is_next-clause-going : goal.returns-else-is_next-clause-going
returns-else-is_next-clause-going g c =
    let p = g.P.Protocol.table c.args.protocol.now in
    let all = c.in_ok-add_all.ensures in
    let read : pair_at c.args.self.now.pairs.items c.args.at ≡ c.index-pair.result.now = pair_read c.args.self.now.pairs.items c.args.at c.index-pair.result.now c.requires.at c.index-pair.ensures in
    going_same p c.args.self.now _ c.args.at c.index-pair.result.now c.requires.going c.requires.at read all.grows all.all (λ a b. subst (λ (l : List Above). HasNext l c.index-pair.result.now.own) all.grows.nexts (c.if-is_next.ensures.known refl a b))
