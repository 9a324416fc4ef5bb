use Rattle.std.proofs.Common.{ℕ, List, ◌+◌, ◌≤◌, sym, subst}
use Rattle.kr_decide.specs.declared.pair.Pair.{Pair}
use Rattle.kr_decide.specs.Opens.{AreHeld}
use Rattle.kr_decide.specs.Survey.{AreHoles, of_cover}
use Rattle.kr_decide.proofs.Surveyed.{survey_right}
use Rattle.kr_decide.proofs.survey.Survey.of.Goals as goal

pub returns : goal.returns
returns g c =
    let p = g.P.Protocol.table c.args.protocol.now in
    let held = c.in_ok-held.held in
    let holed = c.in_ok-holed.holed in
    survey_right p c.in_ok-found.found held holed c.in_ok-met.met c.first_hole-hole.result c.in_ok-found.ensures
    (λ k. subst (λ (l : List Pair). AreHeld l k (p.count + 1) (of_cover held k)) c.deref.ensures.value (subst (λ (n : ℕ). AreHeld c.deref.result.now k (n + 1) (of_cover held k)) c.count-count.ensures (c.in_ok-held.ensures k)))
    (λ k. subst (λ (n : ℕ). AreHoles p k (n + 1) (of_cover holed k)) c.count-count.ensures (c.in_ok-holed.ensures k))
    c.in_ok-met.ensures.sound c.in_ok-met.ensures.marks c.first_hole-hole.ensures.some c.first_hole-hole.ensures.none

pub held-requires : goal.held-requires
held-requires g c = subst (λ (n : ℕ). n ≤ 15) (sym c.count-count.ensures) (let laws = g.met.P.Protocol.lawful c.args.protocol.now in laws.few)

pub holed-requires : goal.holed-requires
holed-requires g c = record {
  count = subst (λ (n : ℕ). n ≤ 15) (sym c.count-count.ensures) (let laws = g.met.P.Protocol.lawful c.args.protocol.now in laws.few);
  going = c.in_ok-found.ensures;
}

pub of-requires : goal.of-requires
of-requires g c = c.in_ok-found.ensures

pub first_hole-hole-requires : goal.first_hole-hole-requires
first_hole-hole-requires g c = c.in_ok-found.ensures
